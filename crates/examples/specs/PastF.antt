-- More than f equivocators: there "Direct skip, tried only if no commit" and "If several B qualify, the lowest mark" make a difference, as they
-- make none in P1 to P14. One table for each, n = 4; each answer is whole, as theirs are.
-- Assumes nothing.
use Rattle.std.specs.Prelude.{List, [], ◌∷◌, ◌++◌, ◌≡◌, ℕ}
use Rattle.rules.specs.Tables.{v, mark2, not0, not3}
use Rattle.examples.specs.Examples.{Answer, answer, counts, settled_as}

-- Authors 0, 1, 2 support (1,0,1) in round 2 and certify it in round 3. In round 2 authors 1, 2, 3 each have a vertex that is blank for round 1:
-- authors 1 and 2 have both.
unfoldable pub commit_though_blank : List ℕ
unfolding v mark2
commit_though_blank =
    v 1 0 [] ++ v 1 1 [] ++ v 1 2 [] ++ v 1 3 []
    ++ v 2 0 not3 ++ v 2 1 not3 ++ mark2 2 1 not0 ++ v 2 2 not3 ++ mark2 2 2 not0 ++ v 2 3 not0
    ++ v 3 0 not3 ++ v 3 1 not3 ++ v 3 2 not3

-- The leader of round 1 has two vertices, marks 1 and 2. Authors 0, 1, 2 have two in each round after it: with mark 1 they support and certify
-- the one, with mark 2 the other.
unfoldable pub both_certified : List ℕ
unfolding v mark2
both_certified =
    v 1 0 [] ++ mark2 1 0 [] ++ v 1 1 [] ++ v 1 2 []
    ++ v 2 0 not3 ++ mark2 2 0 (2 ∷ 1 ∷ 1 ∷ []) ++ v 2 1 not3 ++ mark2 2 1 (2 ∷ 1 ∷ 1 ∷ []) ++ v 2 2 not3 ++ mark2 2 2 (2 ∷ 1 ∷ 1 ∷ [])
    ++ v 3 0 not3 ++ mark2 3 0 (2 ∷ 2 ∷ 2 ∷ []) ++ v 3 1 not3 ++ mark2 3 1 (2 ∷ 2 ∷ 2 ∷ []) ++ v 3 2 not3 ++ mark2 3 2 (2 ∷ 2 ∷ 2 ∷ [])

-- Round 1 is committed, though it could be skipped.
abbrev pub committed_though_blank : Answer
committed_though_blank =
    settled_as "S 13 3 2 1 2\nR 1 commit 0 1\nR 2 undecided\nR 3 undecided\nV 1 0 1\n"
    (counts 13 3 2 1 2)
    (2 ∷ 0 ∷ 0 ∷ [])
    (0 ∷ [])
    (1 ∷ 0 ∷ 0 ∷ 0 ∷ 0 ∷ 0 ∷ 0 ∷ 0 ∷ 0 ∷ 0 ∷ 0 ∷ 0 ∷ 0 ∷ [])

-- Of the two it is committed with mark 1.
abbrev pub lowest_committed : Answer
lowest_committed =
    settled_as "S 16 3 2 1 3\nR 1 commit 0 1\nR 2 undecided\nR 3 undecided\nV 1 0 1\n"
    (counts 16 3 2 1 3)
    (2 ∷ 0 ∷ 0 ∷ [])
    (0 ∷ [])
    (1 ∷ 0 ∷ 0 ∷ 0 ∷ 0 ∷ 0 ∷ 0 ∷ 0 ∷ 0 ∷ 0 ∷ 0 ∷ 0 ∷ 0 ∷ 0 ∷ 0 ∷ 0 ∷ [])

pub record PastF : Type 0 where
  pub commit_before_skip : answer commit_though_blank ≡ committed_though_blank
  pub lowest_mark : answer both_certified ≡ lowest_committed
