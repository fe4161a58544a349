-- The bytes of a label, as they are written and printed. Assumes nothing.
use Rattle.std.proofs.Common.{rules, Fits, w8, ◌≡◌, ℕ, ◌+◌, ◌/◌, ◌%◌, ◌<◌, List, [], ◌∷◌, ◌++◌, length, get_or, take, Ok, Err, Result, sym, refl, ap, ◌∙◌, add-one, take-suc}
use Rattle.std.specs.Char.{digit_char}
use Rattle.layout.specs.declared.label.Label.{Label}
use Rattle.layout.specs.declared.refusal.Refusal.{Refusal}
use Rattle.layout.specs.Labels.{label_of, Writes}
use Rattle.player.specs.Texts.{hex_text}

-- a label that is written into a buffer of its length
pub filled : (m : Label) (old new : List ℕ) (r : Result (Unit {0}) Refusal) → length old ≡ 16 → Writes m old new r → new ≡ label_of m
filled m old new (Ok x) long w = w.1
filled m old new (Err e) long w = absurd (w.0 long)

hex_append : (xs ys : List ℕ) → hex_text (xs ++ ys) ≡ hex_text xs ++ hex_text ys
hex_append [] ys = refl
hex_append (x ∷ xs) ys = ap (λ l. 32 ∷ digit_char (x / 16) ∷ digit_char (x % 16) ∷ l) (hex_append xs ys)

-- a loop that writes the bytes one after the other
pub hex_more : (bs : List ℕ) (i : ℕ) → i < length bs → hex_text (take i bs) ++ hex_text (get_or bs i 0 ∷ []) ≡ hex_text (take (i + 1) bs)
hex_more bs i h = sym (hex_append (take i bs) (get_or bs i 0 ∷ [])) ∙ ap hex_text (rw (add-one i) (sym (take-suc bs i 0 h)))

-- a number of 8 bits
pub byte_range : (b : ℕ) → Fits w8 b → b < 256
byte_range b h = search rules
