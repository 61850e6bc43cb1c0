-- Document 01, "Examples": P1 to P14 as a single statement, with the three sums of "The record".
-- Each answer is whole: all that the program prints for n = 4 and the table, and all that a settlement gives and leaves in buffers
-- that are longer than it needs.
-- Assumes nothing.
use Rattle.std.specs.Prelude.{ℕ, ◌-◌, List, [], ◌∷◌, ◌++◌, map, ◌≡◌, length, replicate}
use Prim.Native.String.{String}
use Rattle.rules.specs.declared.Counts.{Counts}
use Rattle.rules.specs.Refusals.{gives, refusal}
use Rattle.rules.specs.Record.{first}
use Rattle.rules.specs.Decide.{box_setting}
use Rattle.rules.specs.Settlement.{Buffers, Settles, settle}
use Rattle.rules.specs.Program.{bytes_of, printed}
use Rattle.rules.specs.Tables.{ThreeSums, p1, p2, p3, p4, p5, p6, p7, p8, p9, p10, p11, p12, p13, p14}

-- ---- what is asked, and how an answer is written down

-- 26 cells, places and bytes, all 9
abbrev pub nines : Buffers
nines = record { cells = replicate 26 9; order = replicate 26 9; taken = replicate 26 9 }

pub record Answer : Type 0 where
  pub prints : List ℕ
  pub settles : Settles

abbrev pub answer : List ℕ → Answer
answer t = record { prints = printed (4 ∷ t); settles = settle (box_setting 4) first 4 t nines }

-- the first places written, the rest of the 26 kept
abbrev pub kept : List ℕ → List ℕ
kept xs = xs ++ replicate (26 - length xs) 9

abbrev pub counts : (records highest undecided written equivocators : ℕ) → Counts
counts a b c d e = record { records = a; highest = b; undecided = c; written = d; equivocators = e }

-- the printed text, the counts, and what is written of cells, places and taken bytes
abbrev pub settled_as : String → Counts → (cells order taken : List ℕ) → Answer
settled_as s c xs ys zs =
    record { prints = bytes_of s; settles = record { outcome = gives c; buffers = record { cells = kept xs; order = kept ys; taken = kept zs } } }

abbrev pub refused_as : String → (number position : ℕ) → Answer
refused_as s k p = record { prints = bytes_of s; settles = record { outcome = refusal k p; buffers = nines } }

-- ---- the answers of document 01

abbrev pub a1 : Answer
a1 =
    settled_as "S 0 0 1 0 0\n"
    (counts 0 0 1 0 0)
    ([])
    ([])
    ([])

abbrev pub a2 : Answer
a2 =
    settled_as "S 12 3 2 1 0\nR 1 commit 0 1\nR 2 undecided\nR 3 undecided\nV 1 0 1\n"
    (counts 12 3 2 1 0)
    (2 ∷ 0 ∷ 0 ∷ [])
    (0 ∷ [])
    (1 ∷ 0 ∷ 0 ∷ 0 ∷ 0 ∷ 0 ∷ 0 ∷ 0 ∷ 0 ∷ 0 ∷ 0 ∷ 0 ∷ [])

abbrev pub a3 : Answer
a3 =
    settled_as "S 11 3 2 1 0\nR 1 commit 0 1\nR 2 undecided\nR 3 undecided\nV 1 0 1\n"
    (counts 11 3 2 1 0)
    (2 ∷ 0 ∷ 0 ∷ [])
    (0 ∷ [])
    (1 ∷ 0 ∷ 0 ∷ 0 ∷ 0 ∷ 0 ∷ 0 ∷ 0 ∷ 0 ∷ 0 ∷ 0 ∷ [])

abbrev pub a4 : Answer
a4 =
    settled_as "S 10 3 1 0 0\nR 1 undecided\nR 2 undecided\nR 3 undecided\n"
    (counts 10 3 1 0 0)
    (0 ∷ 0 ∷ 0 ∷ [])
    ([])
    (0 ∷ 0 ∷ 0 ∷ 0 ∷ 0 ∷ 0 ∷ 0 ∷ 0 ∷ 0 ∷ 0 ∷ [])

abbrev pub a5 : Answer
a5 =
    settled_as "S 6 2 2 0 0\nR 1 skip\nR 2 undecided\n"
    (counts 6 2 2 0 0)
    (1 ∷ 0 ∷ [])
    ([])
    (0 ∷ 0 ∷ 0 ∷ 0 ∷ 0 ∷ 0 ∷ [])

abbrev pub a6 : Answer
a6 =
    settled_as "S 5 2 1 0 0\nR 1 undecided\nR 2 undecided\n"
    (counts 5 2 1 0 0)
    (0 ∷ 0 ∷ [])
    ([])
    (0 ∷ 0 ∷ 0 ∷ 0 ∷ 0 ∷ [])

abbrev pub a7 : Answer
a7 =
    settled_as "S 24 6 5 13 0\nR 1 commit 0 1\nR 2 commit 1 1\nR 3 commit 2 1\nR 4 commit 3 1\nR 5 undecided\nR 6 undecided\nV 1 0 1\nV 1 1 1\nV 1 2 1\nV 1 3 1\nV 2 1 1\nV 2 2 1\nV 2 3 1\nV 3 2 1\nV 2 0 1\nV 3 0 1\nV 3 1 1\nV 3 3 1\nV 4 3 1\n"
    (counts 24 6 5 13 0)
    (2 ∷ 7 ∷ 12 ∷ 17 ∷ 0 ∷ 0 ∷ [])
    (0 ∷ 1 ∷ 2 ∷ 3 ∷ 5 ∷ 6 ∷ 7 ∷ 10 ∷ 4 ∷ 8 ∷ 9 ∷ 11 ∷ 15 ∷ [])
    (1 ∷ 1 ∷ 1 ∷ 1 ∷ 1 ∷ 1 ∷ 1 ∷ 1 ∷ 1 ∷ 1 ∷ 1 ∷ 1 ∷ 0 ∷ 0 ∷ 0 ∷ 1 ∷ 0 ∷ 0 ∷ 0 ∷ 0 ∷ 0 ∷ 0 ∷ 0 ∷ 0 ∷ [])

abbrev pub a8 : Answer
a8 =
    settled_as "S 24 6 5 11 0\nR 1 skip\nR 2 commit 1 1\nR 3 commit 2 1\nR 4 commit 3 1\nR 5 undecided\nR 6 undecided\nV 1 0 1\nV 1 1 1\nV 1 2 1\nV 1 3 1\nV 2 1 1\nV 2 2 1\nV 2 3 1\nV 3 2 1\nV 3 1 1\nV 3 3 1\nV 4 3 1\n"
    (counts 24 6 5 11 0)
    (1 ∷ 7 ∷ 12 ∷ 17 ∷ 0 ∷ 0 ∷ [])
    (0 ∷ 1 ∷ 2 ∷ 3 ∷ 5 ∷ 6 ∷ 7 ∷ 10 ∷ 9 ∷ 11 ∷ 15 ∷ [])
    (1 ∷ 1 ∷ 1 ∷ 1 ∷ 0 ∷ 1 ∷ 1 ∷ 1 ∷ 0 ∷ 1 ∷ 1 ∷ 1 ∷ 0 ∷ 0 ∷ 0 ∷ 1 ∷ 0 ∷ 0 ∷ 0 ∷ 0 ∷ 0 ∷ 0 ∷ 0 ∷ 0 ∷ [])

abbrev pub a9 : Answer
a9 =
    settled_as "S 9 2 1 0 1\nR 1 undecided\nR 2 undecided\n"
    (counts 9 2 1 0 1)
    (0 ∷ 0 ∷ [])
    ([])
    (0 ∷ 0 ∷ 0 ∷ 0 ∷ 0 ∷ 0 ∷ 0 ∷ 0 ∷ 0 ∷ [])

abbrev pub a10 : Answer
a10 = refused_as "X 5 0\n" 5 0

abbrev pub a11 : Answer
a11 = refused_as "X 4 0\n" 4 0

abbrev pub a12 : Answer
a12 = refused_as "X 6 1\n" 6 1

abbrev pub a13 : Answer
a13 = refused_as "X 7 3\n" 7 3

abbrev pub a14 : Answer
a14 = refused_as "X 8 3\n" 8 3

-- ---- the single statement

pub record Hold : Type 0 where
  pub sums : ThreeSums
  pub fourteen : map answer (p1 ∷ p2 ∷ p3 ∷ p4 ∷ p5 ∷ p6 ∷ p7 ∷ p8 ∷ p9 ∷ p10 ∷ p11 ∷ p12 ∷ p13 ∷ p14 ∷ [])
      ≡ a1 ∷ a2 ∷ a3 ∷ a4 ∷ a5 ∷ a6 ∷ a7 ∷ a8 ∷ a9 ∷ a10 ∷ a11 ∷ a12 ∷ a13 ∷ a14 ∷ []
