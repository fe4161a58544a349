-- Where the first word of a text ends. Assumes nothing.
use Rattle.std.proofs.Common.{◌≡◌, ℕ, ◌+◌, eqb, cond, List, [], ◌∷◌, take, drop, refl, ap, eq-eqb, ne_eqb, add-one, Bool, true, false}
use Rattle.std.proofs.lemmas.Bool.{cond-true, cond-false}
use Rattle.script.specs.Words.{front, behind}

-- how many bytes stand before the first space of a text
abbrev pub solid : List ℕ → ℕ
solid [] = 0
solid (c ∷ cs) = cond (eqb c 32) 0 (solid cs + 1)

pub solid_space : (c : ℕ) (cs : List ℕ) → c ≡ 32 → solid (c ∷ cs) ≡ 0
solid_space c cs e = cond-true (eqb c 32) _ _ (eq-eqb c 32 e)

pub solid_other : (c : ℕ) (cs : List ℕ) → (c ≡ 32 → ⊥) → solid (c ∷ cs) ≡ solid cs + 1
solid_other c cs n = cond-false (eqb c 32) _ _ (ne_eqb c 32 n)

front_by : (b : Bool) (c : ℕ) (cs : List ℕ) → take (solid cs) cs ≡ front cs → take (cond b 0 (solid cs + 1)) (c ∷ cs) ≡ cond b [] (c ∷ front cs)
front_by true c cs e = refl
front_by false c cs e = rw (add-one (solid cs)) (ap (λ l. c ∷ l) e)

pub front_is : (text : List ℕ) → take (solid text) text ≡ front text
front_is [] = refl
front_is (c ∷ cs) = front_by (eqb c 32) c cs (front_is cs)

behind_by : (b : Bool) (c : ℕ) (cs : List ℕ) → drop (solid cs) cs ≡ behind cs → drop (cond b 0 (solid cs + 1)) (c ∷ cs) ≡ cond b (c ∷ cs) (behind cs)
behind_by true c cs e = refl
behind_by false c cs e = rw (add-one (solid cs)) e

pub behind_is : (text : List ℕ) → drop (solid text) text ≡ behind text
behind_is [] = refl
behind_is (c ∷ cs) = behind_by (eqb c 32) c cs (behind_is cs)
