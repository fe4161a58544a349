-- What the steps of carrying a stripe do to the staged parities. No contract of a public call rests on it. Assumes nothing.
use Rattle.std.specs.Prelude.{◌≡◌, ℕ, zero, suc, ◌+◌, ◌-◌, ◌<◌, ◌≤◌, Bool, true, false, cond, ◌&&◌, ◌||◌, List, [], ◌==◌, nat_eq, nat_le, slice_index, slice_index_or}
use Rattle.field.specs.Arithmetic.{Arithmetic}
use Rattle.layout.specs.declared.plan.Plan.{Plan}
use Rattle.rack.specs.Meaning.{Meaning}
use Rattle.coding.specs.declared.group.Kind.TheVariants.{Stripe}
use Rattle.coding.specs.Schemes.{Scheme, scheme_of}
use Rattle.coding.specs.Groups.{share}
use Rattle.coding.specs.Pieces.{Grouped, Weights}
use Rattle.pool.specs.declared.load.Load.{Load}
use Rattle.pool.specs.Book.{modules}
use Rattle.pool.specs.Effects.{changed, staged, chunk_in, own_row, outside_row, gain, chunks_at}

-- four numbers and flags of a memory that is large enough, has the field's order, and has all modules fitted
pub record Suits (A : Arithmetic) (p : Scheme) (q m s n : ℕ) (fitted : ℕ → Bool) : Type 0 where
  pub order_is : q ≡ A.order
  pub modules_fit : modules p ≤ m
  pub slots_fit : p.stripes + p.rows ≤ s
  pub length_fits : p.len ≤ n
  pub whole : (j : ℕ) → j < modules p → fitted j ≡ true

-- the same of a memory
abbrev pub Whole : Arithmetic → Scheme → Meaning → Type 0
Whole A p w = Suits A p w.order w.modules w.slots w.length w.fitted

-- at offset o, f k h is added to parity k of each staged row h
abbrev pub grown_symbol : Arithmetic → Scheme → Meaning → ℕ → (ℕ → ℕ → ℕ) → ℕ → ℕ → ℕ → ℕ
grown_symbol A p w o f m slot u =
    cond (staged p m slot u && u == o) (A.add (w.symbol m slot u) (f (m - p.d') (slot - p.stripes))) (w.symbol m slot u)

abbrev pub grown : Arithmetic → Scheme → Meaning → ℕ → (ℕ → ℕ → ℕ) → Meaning
grown A p w o f = changed w (grown_symbol A p w o f)

-- the list has what is added to the parities of one row
abbrev pub to_row : ℕ → List ℕ → ℕ → ℕ → ℕ
to_row row xs k h = cond (h == row) (slice_index xs k) 0

-- what chunk e of stripe i adds to parity k of row h
abbrev pub chunk_gain : Arithmetic → Scheme → ℕ → (ℕ → ℕ) → ℕ → ℕ → ℕ → ℕ
chunk_gain A p i v e k h = cond (nat_le p.r' p.r) (outside_row A p i k v h e) (own_row A p i k v h e)

-- what the stripe's own parities, which are y, add
abbrev pub home_gain : Scheme → ℕ → (ℕ → ℕ) → ℕ → ℕ → ℕ
home_gain p i y k h = cond (nat_le p.r' p.r) (cond (h == p.home i) (y k) 0) 0

-- what all of stripe i adds to parity k of row h, as the memory has its pieces at offset o
abbrev pub stripe_gain : Arithmetic → Scheme → ℕ → Meaning → ℕ → ℕ → ℕ → ℕ
stripe_gain A p i w o k h = gain A p i k (w.symbol (p.d' + k) i o) (chunks_at p w o) h

-- g has, row by row, f k h for each parity k of row h
abbrev pub Amounts : Scheme → (ℕ → ℕ → ℕ) → List (List ℕ) → Type 0
Amounts p f g = (k h : ℕ) → k < p.r' → h < p.rows → slice_index (slice_index_or g h []) k ≡ f k h

-- y is x with f k h added, for each parity k below n of each row h below m at which x has a code
abbrev pub Adds : Arithmetic → ℕ → ℕ → (ℕ → ℕ → ℕ) → List (List ℕ) → List (List ℕ) → Type 0
Adds A n m f x y =
    (k h : ℕ) → k < n → h < m → slice_index (slice_index_or x h []) k < A.order → slice_index (slice_index_or y h []) k ≡ A.add (slice_index (slice_index_or x h []) k) (f k h)

-- some number below n passes a test
abbrev pub some : (ℕ → Bool) → ℕ → Bool
some f zero = false
some f (suc n) = some f n || f n

-- carrying stripe i adds to the staged parities of row h: it is the home row and given the stripe's parities, or a chunk of the
-- stripe lies in it
abbrev pub touches : Scheme → ℕ → ℕ → Bool
touches p i h = (nat_le p.r' p.r && h == p.home i) || some (λ e. nat_eq (p.row (chunk_in p i e)) h) p.d

-- x has all that there is to know of its stripe
pub record Loaded (A : Arithmetic) (x : Load) : Type 0 where
  pub inside : x.group.index < (scheme_of x.plan).stripes
  pub grouped : Grouped (scheme_of x.plan) Stripe x.group.index x.group
  pub home_is : x.home ≡ (scheme_of x.plan).home x.group.index
  pub base_is : x.base ≡ (scheme_of x.plan).stripes
  pub rows_is : x.rows ≡ (scheme_of x.plan).rows
  pub touched_are : (h : ℕ) → h < (scheme_of x.plan).rows → slice_index_or x.touched h false ≡ touches (scheme_of x.plan) x.group.index h
  pub weights_are : (k : ℕ) → k < 4 → Weights A x.group k (slice_index_or x.weights k [])

-- x is what carrying stripe i of a plan needs
pub record LoadOf (A : Arithmetic) (q : Plan) (i : ℕ) (x : Load) : Type 0 where
  pub loaded : Loaded A x
  pub plan_is : x.plan ≡ q
  pub index_is : x.group.index ≡ i

-- r has what chunk e of the stripe adds to each of its row's parities, where its symbol is a
abbrev pub Shares : Arithmetic → Load → ℕ → ℕ → List ℕ → Type 0
Shares A x e a r =
    let p : Scheme = scheme_of x.plan in
    (k : ℕ) → k < p.r' → slice_index r k ≡ share A p k (chunk_in p x.group.index e) a

module _ {R : Type 0} (valid : R → Type 0) (meaning : R → Meaning) where
  -- a step took the rack from x to y, and added f at offset o
  abbrev pub Grows : Arithmetic → Scheme → R → R → ℕ → (ℕ → ℕ → ℕ) → Type 0
  Grows A p x y o f = valid x → Whole A p (meaning x) → o < p.len → valid y × (meaning y ≡ grown A p (meaning x) o f)
