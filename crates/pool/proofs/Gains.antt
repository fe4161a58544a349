-- What a stripe adds to the rows, piece by piece. Assumes nothing.
use Rattle.std.proofs.Common.{◌≡◌, ℕ, zero, suc, ◌+◌, ◌<◌, ◌≤◌, Bool, true, false, cond, ◌&&◌, eqb, leb, ◌≢◌, List, [], get_or, set, replicate, sym, refl, ap, ◌∙◌, ⊎_elim, add-one, arith, get_or-set_other, get_or-set_same}
use mathlib.Core.Logic.{by_cases}
use native.Mathlib.Decide.{ℕ_discrete}
use lib.ListN.{get_or-replicate}
use Rattle.std.proofs.lemmas.List.{get_or_past}
use Rattle.std.proofs.lemmas.Bool.{cases_lt, le-leb, eq-eqb, ne_eqb, or_parts, cond-true, cond-false, cond_both}
use Rattle.std.proofs.lemmas.Bool.Decides.{nat_tests}
use Rattle.field.specs.Arithmetic.{Arithmetic, Lawful}
use Rattle.field.specs.Sums.{total}
use Rattle.field.proofs.Codes.{total_below}
use Rattle.coding.specs.Schemes.{Scheme}
use Rattle.coding.specs.Groups.{share}
use Rattle.pool.specs.Effects.{chunk_in, own_row, outside_row, gain}
use Rattle.pool.specs.Growth.{to_row, chunk_gain, home_gain, Amounts, Adds, some, touches}

pub zero_add : (A : Arithmetic) → Lawful A → (a : ℕ) → a < A.order → A.add 0 a ≡ a
zero_add A L a h = L.add_comm 0 a ∙ L.add-zero a h

-- equal sums, and sums of nothing
total_same : (A : Arithmetic) (n : ℕ) (f g : ℕ → ℕ) → ((j : ℕ) → j < n → f j ≡ g j) → total A n f ≡ total A n g
total_same A zero f g h = refl
total_same A (suc n) f g h = ap (λ z. A.add z (f n)) (total_same A n f g (λ j l. h j (omega arith))) ∙ ap (λ z. A.add (total A n g) z) (h n (omega arith))

total_none : (A : Arithmetic) → Lawful A → (n : ℕ) (f : ℕ → ℕ) → ((j : ℕ) → j < n → f j ≡ 0) → total A n f ≡ 0
total_none A L zero f h = refl
total_none A L (suc n) f h =
    ap (λ z. A.add z (f n)) (total_none A L n f (λ j l. h j (omega arith))) ∙ ap (λ z. A.add 0 z) (h n (omega arith)) ∙ L.add-zero 0 (omega (arith, L.two))

-- one list of amounts from another
module _ (A : Arithmetic) (L : Lawful A) where
  adds_none : (n m : ℕ) (f : ℕ → ℕ → ℕ) (x : List (List ℕ)) → ((k h : ℕ) → f k h ≡ 0) → Adds A n m f x x
  adds_none n m f x e k h lk lh code = sym (L.add-zero (get_or (get_or x h []) k 0) code) ∙ ap (λ (z : ℕ). A.add (get_or (get_or x h []) k 0) z) (sym (e k h))

  adds_same : (n m n' m' : ℕ) (f g : ℕ → ℕ → ℕ) (x y : List (List ℕ)) → n' ≤ n → m' ≤ m → ((k h : ℕ) → k < n' → h < m' → f k h ≡ g k h) → Adds A n m f x y → Adds A n' m' g x y
  adds_same n m n' m' f g x y ln lm same is k h lk lh code = is k h (omega arith) (omega arith) code ∙ ap (λ (z : ℕ). A.add (get_or (get_or x h []) k 0) z) (same k h lk lh)

  adds_twice : (n m : ℕ) (f g : ℕ → ℕ → ℕ) (x y z : List (List ℕ)) → Adds A n m f x y → Adds A n m g y z → Adds A n m (λ k h. A.add (f k h) (g k h)) x z
  adds_twice n m f g x y z a b k h lk lh code =
      let first : get_or (get_or y h []) k 0 ≡ A.add (get_or (get_or x h []) k 0) (f k h) = a k h lk lh code in
      b k h lk lh (omega (arith, first, L.add-below (get_or (get_or x h []) k 0) (f k h))) ∙ ap (λ (s : ℕ). A.add s (g k h)) first ∙ L.add_assoc (get_or (get_or x h []) k 0) (f k h) (g k h)

-- a chunk outside the home row is subtracted there, and added to its own row
moved_test : (A : Arithmetic) → Lawful A → (row home h s t : ℕ) → (row ≡ home → ⊥) → s < A.order → t < A.order →
    A.add (cond (eqb h home) t 0) (cond (eqb h row) s 0) ≡ cond (eqb row home) 0 (cond (eqb row h) s (cond (eqb h home) t 0))
moved_test A L row home h s t ne ls lt =
    let zero-code : 0 < A.order = omega (arith, L.two) in
    let a = L.add-zero t lt in let b = zero_add A L s ls in let c = L.add-zero 0 zero-code in grind (arith, nat_tests)

eqb_sym : (a b : ℕ) → eqb a b ≡ eqb b a
eqb_sym a b = grind (arith, nat_tests)

-- what a chunk adds
module _ (A : Arithmetic) (L : Lawful A) (p : Scheme) (i e : ℕ) (v : ℕ → ℕ) where
  -- a chunk of the home row stays there
  pub stays : (x : List (List ℕ)) → p.row (chunk_in p i e) ≡ p.home i → Adds A p.r' p.rows (λ k h. outside_row A p i k v h e) x x
  stays x at =
      adds_none A L p.r' p.rows (λ k h. outside_row A p i k v h e) x
      (λ k h. cond-true (eqb (p.row (chunk_in p i e)) (p.home i)) 0 _ (eq-eqb (p.row (chunk_in p i e)) (p.home i) at))

  module _ (few : p.r' ≤ 4) (short : p.rows ≤ 14) (row : ℕ) (row_is : row ≡ p.row (chunk_in p i e)) (xs : List ℕ) (shares : (k : ℕ) → k < p.r' → get_or xs k 0 ≡ share A p k (chunk_in p i e) (v (chunk_in p i e))) where
    -- one that is added to its own row
    pub adds_own : (x y : List (List ℕ)) → Adds A 4 14 (to_row row xs) x y → Adds A p.r' p.rows (λ k h. own_row A p i k v h e) x y
    adds_own x y =
        adds_same A L 4 14 p.r' p.rows (to_row row xs) (λ k h. own_row A p i k v h e) x y few short
        (λ k h lk _.
        ap (λ (t : Bool). cond t (get_or xs k 0) 0) (eqb_sym h row)
        ∙ ap (λ (z : ℕ). cond (eqb z h) (get_or xs k 0) 0) row_is
        ∙ ap (λ (z : ℕ). cond (eqb (p.row (chunk_in p i e)) h) z 0) (shares k lk))

    -- one that is moved there from the home row
    pub moves : (home : ℕ) → home ≡ p.home i → (row ≡ home → ⊥) → (ns : List ℕ) → ((k : ℕ) → k < 4 → get_or ns k 0 ≡ A.neg (get_or xs k 0)) → (x y z : List (List ℕ)) →
        Adds A 4 14 (to_row home ns) x y → Adds A 4 14 (to_row row xs) y z → Adds A p.r' p.rows (λ k h. outside_row A p i k v h e) x z
    moves home home_is ne ns negs x y z a b =
        let sh : ℕ → ℕ = λ k. share A p k (chunk_in p i e) (v (chunk_in p i e)) in
        adds_same A L 4 14 p.r' p.rows (λ k h. A.add (to_row home ns k h) (to_row row xs k h)) (λ k h. outside_row A p i k v h e) x z few short
        (λ k h lk _.
        ap (λ (z : ℕ). A.add (cond (eqb h home) z 0) (cond (eqb h row) (get_or xs k 0) 0)) (negs k (omega arith))
        ∙ ap (λ (z : ℕ). A.add (cond (eqb h home) (A.neg z) 0) (cond (eqb h row) z 0)) (shares k lk)
        ∙ moved_test A L row home h (sh k) (A.neg (sh k)) ne (L.mul-below _ _) (L.neg-below _)
        ∙ ap (λ (z : ℕ). cond (eqb z home) 0 (cond (eqb z h) (sh k) (cond (eqb h home) (A.neg (sh k)) 0))) row_is
        ∙ ap (λ (z : ℕ). cond (eqb (p.row (chunk_in p i e)) z) 0 (cond (eqb (p.row (chunk_in p i e)) h) (sh k) (cond (eqb h z) (A.neg (sh k)) 0))) home_is)
        (adds_twice A L 4 14 (to_row home ns) (to_row row xs) x y z a b)

-- no amounts
abbrev nothing : List (List ℕ)
nothing = replicate 14 (replicate 4 0)

all_zero : (k : ℕ) → get_or {A = ℕ} (replicate 4 0) k 0 ≡ 0
all_zero k = ⊎_elim (λ l. get_or-replicate 4 k 0 0 l) (λ l. get_or_past (replicate 4 0) k 0 l) (cases_lt k 4)

none_yet : (k h : ℕ) → get_or (get_or nothing h []) k 0 ≡ 0
none_yet k h =
    ⊎_elim (λ l. ap (λ (z : List ℕ). get_or z k 0) (get_or-replicate 14 h (replicate 4 0) [] l) ∙ all_zero k)
    (λ l. ap (λ (z : List ℕ). get_or z k 0) (get_or_past nothing h [] l))
    (cases_lt h 14)

-- what the stripe's own parities add
module _ (p : Scheme) (i : ℕ) (y : ℕ → ℕ) where
  pub home_gains : p.r' ≤ p.r → (home : ℕ) → home ≡ p.home i → home < 14 → (xs : List ℕ) → ((k : ℕ) → k < p.r' → get_or xs k 0 ≡ y k) →
      Amounts p (home_gain p i y) (set nothing home xs)
  home_gains few home home_is l xs are k h lk lh =
      by_cases (ℕ_discrete h home)
      (λ (e : h ≡ home).
      ap (λ (j : ℕ). get_or (get_or (set nothing home xs) j []) k 0) e
      ∙ ap (λ (z : List ℕ). get_or z k 0) (get_or-set_same nothing home xs [] l)
      ∙ are k lk
      ∙ sym (cond-true (eqb h (p.home i)) (y k) 0 (eq-eqb h (p.home i) (e ∙ home_is))))
      (λ (ne : h ≢ home).
      ap (λ (z : List ℕ). get_or z k 0) (get_or-set_other nothing home h xs [] ne)
      ∙ none_yet k h
      ∙ sym (cond-false (eqb h (p.home i)) (y k) 0 (ne_eqb h (p.home i) (λ e. ne (e ∙ sym home_is)))))
      ∙ sym (cond-true (leb p.r' p.r) (cond (eqb h (p.home i)) (y k) 0) 0 (le-leb p.r' p.r few))

  home_below : (n : ℕ) → ((k : ℕ) → y k < n) → (k h : ℕ) → home_gain p i y k h < n
  home_below n below k h =
      let some-code : 0 < n = omega (arith, below 0) in
      cond_both (leb p.r' p.r) (cond (eqb h (p.home i)) (y k) 0) 0 (λ z. z < n)
      (λ _. cond_both (eqb h (p.home i)) (y k) 0 (λ z. z < n) (λ _. below k) (λ _. some-code))
      (λ _. some-code)

-- what the parities and the chunks below n add
abbrev pub so_far : Arithmetic → Scheme → ℕ → (ℕ → ℕ) → (ℕ → ℕ) → ℕ → ℕ → ℕ → ℕ
so_far A p i y v n k h = A.add (home_gain p i y k h) (total A n (λ e. chunk_gain A p i v e k h))

-- all pieces
module _ (A : Arithmetic) (L : Lawful A) (p : Scheme) (i : ℕ) where
  sums : (b : Bool) (y : ℕ) (f g : ℕ → ℕ) → A.add (cond b y 0) (total A p.d (λ e. cond b (f e) (g e))) ≡ cond b (A.add y (total A p.d f)) (total A p.d g)
  sums true y f g = refl
  sums false y f g = zero_add A L (total A p.d g) (total_below A L p.d g)

  module _ (y v : ℕ → ℕ) (x : List (List ℕ)) where
    pub gains_begun : ((k : ℕ) → y k < A.order) → Amounts p (home_gain p i y) x → Amounts p (so_far A p i y v 0) x
    gains_begun below is k h lk lh = is k h lk lh ∙ sym (L.add-zero (home_gain p i y k h) (home_below p i y A.order below k h))

    pub gains_more : (n : ℕ) (z : List (List ℕ)) → Amounts p (so_far A p i y v n) x → Adds A p.r' p.rows (chunk_gain A p i v n) x z → Amounts p (so_far A p i y v (n + 1)) z
    gains_more n z is more k h lk lh =
        let t : ℕ = total A n (λ e. chunk_gain A p i v e k h) in
        more k h lk lh (omega (arith, is k h lk lh, L.add-below (home_gain p i y k h) t))
        ∙ ap (λ (s : ℕ). A.add s (chunk_gain A p i v n k h)) (is k h lk lh)
        ∙ L.add_assoc (home_gain p i y k h) t (chunk_gain A p i v n k h)
        ∙ ap (λ (m : ℕ). so_far A p i y v m k h) (sym (add-one n))

    pub gains_all : (n : ℕ) → n ≡ p.d → Amounts p (so_far A p i y v n) x → Amounts p (λ k h. gain A p i k (y k) v h) x
    gains_all n all is k h lk lh =
        is k h lk lh
        ∙ ap (λ (m : ℕ). so_far A p i y v m k h) all
        ∙ sums (leb p.r' p.r) (cond (eqb h (p.home i)) (y k) 0) (outside_row A p i k v h) (own_row A p i k v h)

  -- what a chunk adds depends on its own symbol alone
  chunk_gain_lem : (v v' : ℕ → ℕ) (e k h : ℕ) → v (chunk_in p i e) ≡ v' (chunk_in p i e) → chunk_gain A p i v e k h ≡ chunk_gain A p i v' e k h
  chunk_gain_lem v v' e k h is =
      let r : ℕ = p.row (chunk_in p i e) in
      let at : ℕ → ℕ = λ z.
      cond (leb p.r' p.r) (cond (eqb r (p.home i)) 0 (cond (eqb r h) (share A p k (chunk_in p i e) z) (cond (eqb h (p.home i)) (A.neg (share A p k (chunk_in p i e) z)) 0)))
      (cond (eqb r h) (share A p k (chunk_in p i e) z) 0) in
      ap at is

  pub gain_same : (k h y y' : ℕ) (v v' : ℕ → ℕ) → y ≡ y' → ((e : ℕ) → e < p.d → v (chunk_in p i e) ≡ v' (chunk_in p i e)) → gain A p i k y v h ≡ gain A p i k y' v' h
  gain_same k h y y' v v' is are =
      sym (sums (leb p.r' p.r) (cond (eqb h (p.home i)) y 0) (outside_row A p i k v h) (own_row A p i k v h))
      ∙ ap (λ (z : ℕ). A.add (cond (leb p.r' p.r) (cond (eqb h (p.home i)) z 0) 0) (total A p.d (λ e. chunk_gain A p i v e k h))) is
      ∙ ap (λ (z : ℕ). A.add (cond (leb p.r' p.r) (cond (eqb h (p.home i)) y' 0) 0) z) (total_same A p.d (λ e. chunk_gain A p i v e k h) (λ e. chunk_gain A p i v' e k h) (λ e le. chunk_gain_lem v v' e k h (are e le)))
      ∙ sums (leb p.r' p.r) (cond (eqb h (p.home i)) y' 0) (outside_row A p i k v' h) (own_row A p i k v' h)

  pub gain_below : (k h y : ℕ) (v : ℕ → ℕ) → gain A p i k y v h < A.order
  gain_below k h y v =
      cond_both (leb p.r' p.r) (A.add (cond (eqb h (p.home i)) y 0) (total A p.d (outside_row A p i k v h))) (total A p.d (own_row A p i k v h)) (λ z. z < A.order)
      (λ _. L.add-below (cond (eqb h (p.home i)) y 0) (total A p.d (outside_row A p i k v h)))
      (λ _. total_below A L p.d (own_row A p i k v h))

-- none passes where not some one does
none_passes : (f : ℕ → Bool) (n : ℕ) → some f n ≡ false → (e : ℕ) → e < n → f e ≡ false
none_passes f zero none e l = absurd (omega arith)
none_passes f (suc n) none e l =
    let parts = or_parts (some f n) (f n) none in
    by_cases (ℕ_discrete e n) (λ (is : e ≡ n). ap f is ∙ parts.1) (λ (ne : e ≢ n). none_passes f n parts.0 e (omega arith))

home_zero : (a b : Bool) (y : ℕ) → (a && b) ≡ false → cond a (cond b y 0) 0 ≡ 0
home_zero true true y e = absurd (let z : ◌≡◌ {A = ℕ} 0 1 = cc in omega arith)
home_zero true false y e = refl
home_zero false b y e = refl

chunk_zero : (a b c d : Bool) (s t : ℕ) → (a && d) ≡ false → c ≡ false → cond a (cond b 0 (cond c s (cond d t 0))) (cond c s 0) ≡ 0
chunk_zero a b c d s t e f = grind (arith, nat_tests)

-- a row that the stripe does not touch gets nothing
pub untouched : (A : Arithmetic) → Lawful A → (p : Scheme) (i k h y : ℕ) (v : ℕ → ℕ) → touches p i h ≡ false → gain A p i k y v h ≡ 0
untouched A L p i k h y v none =
    let parts = or_parts (leb p.r' p.r && eqb h (p.home i)) (some (λ e. eqb (p.row (chunk_in p i e)) h) p.d) none in
    sym (sums A L p i (leb p.r' p.r) (cond (eqb h (p.home i)) y 0) (outside_row A p i k v h) (own_row A p i k v h))
    ∙ ap (λ (z : ℕ). A.add z (total A p.d (λ e. chunk_gain A p i v e k h))) (home_zero (leb p.r' p.r) (eqb h (p.home i)) y parts.0)
    ∙ ap (λ (z : ℕ). A.add 0 z)
    (total_none A L p.d (λ e. chunk_gain A p i v e k h)
    (λ e le.
    let s : ℕ = share A p k (chunk_in p i e) (v (chunk_in p i e)) in
    chunk_zero (leb p.r' p.r) (eqb (p.row (chunk_in p i e)) (p.home i)) (eqb (p.row (chunk_in p i e)) h) (eqb h (p.home i)) s (A.neg s)
    parts.0 (none_passes (λ e. eqb (p.row (chunk_in p i e)) h) p.d parts.1 e le)))
    ∙ L.add-zero 0 (omega (arith, L.two))
