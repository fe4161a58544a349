-- The texts of plans, and the pieces that they are made of. Assumes nothing.
use Rattle.std.specs.Prelude.{ℕ, zero, suc, ◌/◌, ◌%◌, Bool, List, [], ◌∷◌, ◌++◌, codes, decimal}
use Rattle.std.specs.Char.{digit_char}
use Rattle.layout.specs.declared.plan.Plan as layout-plan
use Rattle.layout.specs.Placing.{chunks_of, stripes_of, rows_of, chunk_at, home_of}
use Rattle.layout.specs.Counts.{data_read, parities_read, modules_of, slots_of}
use Rattle.layout.specs.Labels.{label_of}

-- the texts f 0, f 1, .. f (n - 1), one after the other
abbrev pub each : ℕ → (ℕ → List ℕ) → List ℕ
each zero f = []
each (suc n) f = each n f ++ f n

-- every byte as two hexadecimal digits, with a space before it
abbrev pub hex_text : List ℕ → List ℕ
hex_text [] = []
hex_text (b ∷ bs) = 32 ∷ digit_char (b / 16) ∷ digit_char (b % 16) ∷ hex_text bs

-- the sizes of a plan
abbrev pub sizes_text : layout-plan.Plan → List ℕ
sizes_text p =
    codes "l " ++ (decimal (chunks_of p.d p.d2)
    ++ (codes ", stripes " ++ (decimal (stripes_of p.d p.d2)
    ++ (codes ", rows " ++ (decimal (rows_of p.d p.d2)
    ++ (codes ", modules " ++ (decimal (modules_of p.r p.d2 p.r2)
    ++ (codes ", slots " ++ decimal (slots_of p.d p.d2)))))))))

-- a new line with row i: its chunks by rising column
abbrev pub row_text : layout-plan.Plan → ℕ → List ℕ
row_text p i = (10 ∷ codes "row " ++ (decimal i ++ codes ":")) ++ each p.d2 (λ c. 32 ∷ decimal (chunk_at p.d p.d2 i c))

-- a new line with the home row of each stripe
abbrev pub homes_text : layout-plan.Plan → List ℕ
homes_text p = 10 ∷ codes "home:" ++ each (stripes_of p.d p.d2) (λ s. 32 ∷ decimal (home_of p.d p.d2 s))

-- two new lines with what a changeover reads, and what encoding all anew would read
abbrev pub counts_text : layout-plan.Plan → List ℕ
counts_text p =
    10 ∷ codes "counts: " ++ (decimal (data_read p.d p.r p.d2 p.r2)
    ++ (codes " data, " ++ (decimal (parities_read p.d p.r p.d2 p.r2)
    ++ (codes " parities" ++ (10 ∷ codes "re-encoding: " ++ (decimal (chunks_of p.d p.d2) ++ codes " data"))))))

abbrev pub map_text : layout-plan.Plan → List ℕ
map_text p = sizes_text p ++ each (rows_of p.d p.d2) (row_text p) ++ homes_text p ++ counts_text p

-- the label of a plan
abbrev pub label_text : layout-plan.Plan → Bool → List ℕ
label_text p flag = codes "ok" ++ hex_text (label_of (record { plan = p; after = flag }))
