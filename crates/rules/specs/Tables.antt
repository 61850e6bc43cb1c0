-- Document 01, "Examples": the tables, as bytes.
-- Assumes nothing.
use Rattle.std.specs.Prelude.{ℕ, zero, suc, ◌+◌, ◌/◌, ◌%◌, List, [], ◌∷◌, ◌++◌, map, ◌≡◌}
use Rattle.folds.specs.Folds.{sum_to}
use Rattle.rules.specs.Record.{first, number, sum_of}

-- ---- records

-- x as k bytes, little-endian
unfoldable pub little : ℕ → ℕ → List ℕ
little zero x = []
little (suc k) x = x % 256 ∷ little k (x / 256)

-- k entries: those of the list, then none
unfoldable pub entries : ℕ → List ℕ → List ℕ
unfolding little
entries zero es = []
entries (suc k) [] = little 4 0 ++ entries k []
entries (suc k) (e ∷ es) = little 4 e ++ entries k es

-- all of a record before its sum
unfoldable pub unsummed : (round author mark batches padding : ℕ) → List ℕ → List ℕ
unfolding little entries
unsummed r a m bs pad es = little 4 r ++ little 4 m ++ entries 31 es ++ little 2 bs ++ (a ∷ pad ∷ [])

-- a record whose sum is `off` above the right one
unfoldable pub summed : ℕ → List ℕ → List ℕ
unfolding little sum_of sum_to number
summed off b = b ++ little 2 ((sum_of first b + off) % 65536)

-- a vertex as the examples have most: mark 1, no batches, sum right
unfoldable pub v : (round author : ℕ) → List ℕ → List ℕ
unfolding unsummed summed
v r a es = summed 0 (unsummed r a 1 0 0 es)

-- the same with mark 2
unfoldable pub mark2 : (round author : ℕ) → List ℕ → List ℕ
unfolding unsummed summed
mark2 r a es = summed 0 (unsummed r a 2 0 0 es)

-- Document 01, "The record": the sums of three records, given as round, author, mark, batches, padding and entries, are 2, 15 and 1.
abbrev pub ThreeSums : Type 0
ThreeSums = map (sum_of first) (unsummed 1 0 1 0 0 [] ∷ unsummed 2 3 1 5 0 (1 ∷ 1 ∷ 1 ∷ 1 ∷ []) ∷ unsummed 1 2 65535 65535 0 [] ∷ []) ≡ 2 ∷ 15 ∷ 1 ∷ []

-- ---- rounds

abbrev pub all : List ℕ
all = 1 ∷ 1 ∷ 1 ∷ 1 ∷ []

abbrev pub not0 : List ℕ
not0 = 0 ∷ 1 ∷ 1 ∷ 1 ∷ []

abbrev pub not3 : List ℕ
not3 = 1 ∷ 1 ∷ 1 ∷ []

-- four authors, each referencing all four; in round 1, nothing
unfoldable pub full1 : List ℕ
unfolding v
full1 = v 1 0 [] ++ v 1 1 [] ++ v 1 2 [] ++ v 1 3 []

unfoldable pub full : ℕ → List ℕ
unfolding v
full r = v r 0 all ++ v r 1 all ++ v r 2 all ++ v r 3 all

-- ---- P1 to P14

unfoldable pub p1 : List ℕ
p1 = []

unfoldable pub p2 : List ℕ
unfolding full1 full
p2 = full1 ++ full 2 ++ full 3

unfoldable pub p3 : List ℕ
unfolding full1 full v
p3 = full1 ++ full 2 ++ v 3 0 all ++ v 3 1 all ++ v 3 2 all

unfoldable pub p4 : List ℕ
unfolding full1 full v
p4 = full1 ++ full 2 ++ v 3 0 all ++ v 3 1 all

unfoldable pub p5 : List ℕ
unfolding v
p5 = v 1 1 [] ++ v 1 2 [] ++ v 1 3 [] ++ v 2 1 not0 ++ v 2 2 not0 ++ v 2 3 not0

unfoldable pub p6 : List ℕ
unfolding v
p6 = v 1 1 [] ++ v 1 2 [] ++ v 1 3 [] ++ v 2 1 not0 ++ v 2 2 not0

-- rounds 1 to 3 of P7 and P8
unfoldable pub three : List ℕ
unfolding full1 v
three =
    full1 ++ v 2 0 all ++ v 2 1 all ++ v 2 2 all ++ v 2 3 not0
    ++ v 3 0 (1 ∷ 1 ∷ 1 ∷ 0 ∷ []) ++ v 3 1 not0 ++ v 3 2 not0 ++ v 3 3 not0

unfoldable pub p7 : List ℕ
unfolding three full
p7 = three ++ full 4 ++ full 5 ++ full 6

unfoldable pub p8 : List ℕ
unfolding three full v
p8 = three ++ v 4 0 all ++ v 4 1 all ++ v 4 2 all ++ v 4 3 not0 ++ full 5 ++ full 6

unfoldable pub p9 : List ℕ
unfolding unsummed summed v
p9 =
    v 1 0 [] ++ summed 0 (unsummed 1 0 2 0 0 []) ++ v 1 1 [] ++ v 1 2 [] ++ v 1 3 []
    ++ v 2 0 not0 ++ v 2 1 all ++ v 2 2 (2 ∷ 1 ∷ 1 ∷ 1 ∷ []) ++ v 2 3 not0

unfoldable pub p10 : List ℕ
unfolding unsummed summed
p10 = summed 0 (unsummed 1 0 1 0 1 [])

unfoldable pub p11 : List ℕ
unfolding unsummed summed
p11 = summed 1 (unsummed 1 0 1 0 1 [])

unfoldable pub p12 : List ℕ
unfolding v
p12 = v 1 0 [] ++ v 1 0 []

unfoldable pub p13 : List ℕ
unfolding v
p13 = v 1 0 [] ++ v 1 1 [] ++ v 1 2 [] ++ v 2 0 (1 ∷ 1 ∷ [])

unfoldable pub p14 : List ℕ
unfolding v
p14 = v 1 0 [] ++ v 1 1 [] ++ v 1 2 [] ++ v 2 0 not0
