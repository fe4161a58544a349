-- Words of digits, and the bytes that two hexadecimal digits each write. Assumes nothing.
use Rattle.std.proofs.Common.{◌≡◌, ℕ, zero, suc, ◌+◌, ◌-◌, ◌*◌, ◌<◌, ◌≤◌, Bool, true, false, List, [], ◌∷◌, ◌++◌, length, get_or, take, drop, set, Decides, MatchBool, sym, refl, ap, ◌∙◌, append_assoc, append-nil, le_of_suc-le-suc, not-suc-le-zero, suc-le-suc, zero-le, add-one, arith, take_all, take-suc-set, subst, length-drop}
use Rattle.std.specs.List.{AllWithin, HoldsAt}
use Rattle.std.specs.Str.Parse.{AllDigits}
use Rattle.std.specs.Char.{digit_value}
use Rattle.script.specs.Words.{hex_bytes}

pub digit_of : (r : ℕ) (w : List ℕ) (i : ℕ) → AllDigits r w → i < length w → digit_value (get_or w i 0) < r
digit_of r [] i ds h = absurd (not-suc-le-zero h)
digit_of r (c ∷ w) zero ds h = ds.0
digit_of r (c ∷ w) (suc i) ds h = digit_of r w i ds.1 (le_of_suc-le-suc h)

all_hex : (w : List ℕ) → AllWithin (λ x. digit_value x < 16) w 0 (length w) → AllDigits 16 w
all_hex [] h = tt
all_hex (c ∷ w) h = (h 0 0 zero-le (suc-le-suc zero-le), all_hex w (λ k d low high. h (suc k) d zero-le (suc-le-suc high)))

-- whether each byte of a word is a digit
pub hex_decided : (w : List ℕ) (r : Bool) → MatchBool r (AllWithin (λ x. digit_value x < 16) w 0 (length w)) ((k : ℕ) × (k < length w) × HoldsAt (λ x. digit_value x < 16 → ⊥) w k) → Decides r (AllDigits 16 w)
hex_decided w true h = (λ e. all_hex w h, λ ds. refl)
hex_decided w false h = (λ e. absurd (let z : ◌≡◌ {A = ℕ} 0 1 = cc in omega arith), λ ds. absurd (h.2 0 (digit_of 16 w h.0 ds h.1)))

-- one byte more
rest_is : (left : List ℕ) → take (length left - 2) (drop 2 left) ≡ drop 2 left
rest_is left = take_all (length left - 2) (drop 2 left) (omega (arith, length-drop 2 left))

drop_digits : (left : List ℕ) → AllDigits 16 left → AllDigits 16 (drop 2 left)
drop_digits [] ds = tt
drop_digits (h ∷ []) ds = tt
drop_digits (h ∷ l ∷ ls) ds = ds.1.1

pub rest_digits : (left : List ℕ) → AllDigits 16 left → AllDigits 16 (take (length left - 2) (drop 2 left))
rest_digits left ds = subst (AllDigits 16) (sym (rest_is left)) (drop_digits left ds)

pub rest_count : (left : List ℕ) (i : ℕ) → length left + 2 * i ≡ 32 → i < 16 → length (take (length left - 2) (drop 2 left)) + 2 * (i + 1) ≡ 32
rest_count left i count less = omega (arith, ap length (rest_is left), length-drop 2 left, count, less)

drop_more : (left word out : List ℕ) (i b : ℕ) → length left + 2 * i ≡ 32 → i < 16 → length out ≡ 16 → b ≡ digit_value (get_or left 0 0) * 16 + digit_value (get_or left 1 0) →
    take i out ++ hex_bytes left ≡ hex_bytes word → take (i + 1) (set out i b) ++ hex_bytes (drop 2 left) ≡ hex_bytes word
drop_more [] word out i b count less long e inv = absurd (omega (arith, count, less))
drop_more (h ∷ []) word out i b count less long e inv = absurd (omega (arith, count, less))
drop_more (h ∷ l ∷ ls) word out i b count less long e inv =
    ap (λ s. s ++ hex_bytes ls) (rw (add-one i) (take-suc-set out i b (omega (arith, less, long))))
    ∙ append_assoc (take i out) (b ∷ []) (hex_bytes ls)
    ∙ ap (λ x. take i out ++ x ∷ hex_bytes ls) e
    ∙ inv

pub hex_more : (left word out : List ℕ) (i b : ℕ) → length left + 2 * i ≡ 32 → i < 16 → length out ≡ 16 → b ≡ digit_value (get_or left 0 0) * 16 + digit_value (get_or left 1 0) →
    take i out ++ hex_bytes left ≡ hex_bytes word → take (i + 1) (set out i b) ++ hex_bytes (take (length left - 2) (drop 2 left)) ≡ hex_bytes word
hex_more left word out i b count less long e inv = ap (λ t. take (i + 1) (set out i b) ++ hex_bytes t) (rest_is left) ∙ drop_more left word out i b count less long e inv

-- after the last byte no digit is left
pub no_bytes : (left word out : List ℕ) (i : ℕ) → length out ≡ 16 → 16 ≤ i → length left + 2 * i ≡ 32 → take i out ++ hex_bytes left ≡ hex_bytes word → out ≡ hex_bytes word
no_bytes [] word out i long all count inv = sym (append-nil out) ∙ ap (λ s. s ++ []) (sym (take_all i out (omega (arith, long, all)))) ∙ inv
no_bytes (h ∷ left) word out i long all count inv = absurd (omega (arith, all, count))
