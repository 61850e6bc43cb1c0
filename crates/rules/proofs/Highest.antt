-- The highest round: no record is above it, it is never decided, the round below it is never committed, and so the first
-- undecided round of a table that has records is 1 to the highest.
-- Assumes nothing.
use Prim.Native.Nat.{ℕ, zero, suc, pred, ◌+◌, ◌-◌, ◌≤◌, ◌<◌}
use mathlib.Core.Path.{◌≡◌, refl, ap, ◌∙◌}
use mathlib.Core.Logic.{⊎_elim}
use mathlib.Core.Bool.{true}
use mathlib.Core.List.{List, [], ◌∷◌}
use native.Mathlib.Omega.{arith}
use native.Mathlib.Nat.{le_refl, eq-or-lt_of_le, le_of_suc-le-suc, not-suc-le-zero}
use lib.Dec.{leb}
use lib.ListN.{length}
use borrow.Author.Tests.{leb-true, leb-false}
use Rattle.folds.proofs.Tests.{by_test}
use Rattle.folds.proofs.Quorum.{some_of}
use Rattle.rules.specs.declared.Vertex.{Vertex}
use Rattle.rules.specs.Authors.{quorum, one_leader}
use Rattle.rules.specs.Record.{at}
use Rattle.rules.specs.Decision.{Decision, undecided, skipped, committed}
use Rattle.rules.specs.Support.{certifies, direct_commit, direct_skip, blank}
use Rattle.rules.specs.Decide.{box_setting, highest, decisions, decision_at}
use Rattle.rules.specs.Order.{first_undecided}
use Rattle.rules.proofs.Names.{below_round}
use Rattle.rules.proofs.Slots.{one_leader_lem}
use Rattle.rules.proofs.Accepted.{Accepted, rising, round_pos}
use Rattle.rules.proofs.Support.{Has, blank_is, certifies_is, commit_is, skip_is}
use Rattle.rules.proofs.Decisions.{committed_decided, skipped_decided, skipped_apart}
use Rattle.rules.proofs.Decide.{slot_is, Because, direct, skips, through, blocked, past, because, decisions_past, decisions_length}

module _ {n : ℕ} {vs : List Vertex} (A : Accepted n vs) where
  -- no record is above the highest round
  pub highest_most : (p : ℕ) → p < length vs → (at vs p).round ≤ highest vs
  unfolding highest
  highest_most p l =
      ⊎_elim (λ e. let q : (at vs p).round ≡ (at vs (pred (length vs))).round = ap (λ (k : ℕ). (at vs k).round) e in omega arith)
      (λ h. below_round _ _ (rising A p (pred (length vs)) h (omega arith)))
      (eq-or-lt_of_le {n = p} {m = pred (length vs)} (omega arith))

  pub highest_pos : 0 < length vs → 0 < highest vs
  unfolding highest
  highest_pos h = omega (arith, round_pos A (pred (length vs)) (omega arith))

  -- a direct commit has a vertex two rounds up, a direct skip one round up
  commit_up : (b : Vertex) → direct_commit n vs b ≡ true → b.round + 2 ≤ highest vs
  commit_up b e = two_up (some_of n (quorum n) _ (omega arith) (commit_is n vs b e))
    where
      two_up : (a : ℕ) × (a < n) × Has vs (λ w. certifies n vs w b) a → b.round + 2 ≤ highest vs
      two_up (a, la, (p, l, ea, t)) = omega (arith, highest_most p l, (certifies_is n vs (at vs p) b t).two_up)

  skip_up : (r leader : ℕ) → direct_skip n vs r leader ≡ true → r + 1 ≤ highest vs
  skip_up r leader e = one_up (some_of n (quorum n) _ (omega arith) (skip_is n vs r leader e))
    where
      one_up : (a : ℕ) × (a < n) × Has vs (λ w. blank w r leader) a → r + 1 ≤ highest vs
      one_up (a, la, (p, l, ea, t)) = omega (arith, highest_most p l, (blank_is (at vs p) r leader t).one_up)

  abbrev rounds : List (Decision ℕ)
  rounds = decisions (box_setting n) n vs

  -- a round that is committed has records two rounds up
  pub committed_up : (s p : ℕ) → decision_at rounds s ≡ committed p → s + 3 ≤ highest vs
  committed_up s p e = three_up (because (box_setting n) (one_leader_lem n).later A s)
    where
      three_up : Because (box_setting n) n vs s (decision_at rounds s) → s + 3 ≤ highest vs
      three_up (direct q l i c m k) = omega (arith, commit_up (at vs q) c, (slot_is (one_leader n) s (at vs q) i).at_round)
      three_up (skips none b k) = absurd (skipped_apart e k)
      three_up (blocked none t l f g k) = absurd (committed_decided e k)
      three_up (past h k) = absurd (committed_decided e k)
      three_up (through none t a l f g k) =
          by_test (leb (highest vs) t) (λ h. absurd (committed_decided g (decisions_past (box_setting n) n vs t (leb-true _ _ h))))
          (λ h. omega (arith, leb-false (highest vs) t h))

  -- a round that is decided has records one round up
  pub decided_up : (s : ℕ) → (decision_at rounds s ≡ undecided → ⊥) → s + 2 ≤ highest vs
  decided_up s h = not_highest (because (box_setting n) (one_leader_lem n).later A s)
    where
      not_highest : Because (box_setting n) n vs s (decision_at rounds s) → s + 2 ≤ highest vs
      not_highest (direct q l i c m k) = omega (arith, committed_up s q k)
      not_highest (skips none b k) = omega (arith, skip_up (s + 1) _ b)
      not_highest (blocked none t l f g k) = absurd (h k)
      not_highest (past o k) = absurd (h k)
      not_highest (through none t a l f g k) = omega (arith, committed_up t a g)

  -- the highest round is never decided
  pub highest_undecided : 0 < length vs → decision_at rounds (highest vs - 1) ≡ undecided
  highest_undecided h = open_or (because (box_setting n) (one_leader_lem n).later A (highest vs - 1)) refl
    where
      open_or : {d : Decision ℕ} → Because (box_setting n) n vs (highest vs - 1) d → d ≡ decision_at rounds (highest vs - 1) → d ≡ undecided
      open_or (blocked none t l f g k) e = k
      open_or (past o k) e = k
      open_or (direct q l i c m k) e = absurd (omega (arith, highest_pos h, decided_up (highest vs - 1) (λ z. committed_decided k (e ∙ z))))
      open_or (skips none b k) e = absurd (omega (arith, highest_pos h, decided_up (highest vs - 1) (λ z. skipped_decided k (e ∙ z))))
      open_or (through none t a l f g k) e = absurd (omega (arith, highest_pos h, committed_up t a g))

  -- the round below it is never committed
  pub next_uncommitted : (p : ℕ) → 1 < highest vs → decision_at rounds (highest vs - 2) ≡ committed p → ⊥
  next_uncommitted p h e = omega (arith, committed_up (highest vs - 2) p e)

-- ---- the first undecided one

pub first_undecided_low : (r : ℕ) (ds : List (Decision ℕ)) → r ≤ first_undecided r ds
unfolding first_undecided
first_undecided_low r [] = le_refl r
first_undecided_low r (undecided ∷ ds) = le_refl r
first_undecided_low r (skipped ∷ ds) = omega (arith, first_undecided_low (suc r) ds)
first_undecided_low r (committed a ∷ ds) = omega (arith, first_undecided_low (suc r) ds)

pub first_undecided_at : (r s : ℕ) (ds : List (Decision ℕ)) → s < length ds → decision_at ds s ≡ undecided → first_undecided r ds ≤ r + s
unfolding first_undecided
first_undecided_at r s [] l e = absurd (not-suc-le-zero l)
first_undecided_at r s (undecided ∷ ds) l e = omega arith
first_undecided_at r zero (skipped ∷ ds) l e = absurd (skipped_decided refl e)
first_undecided_at r zero (committed a ∷ ds) l e = absurd (committed_decided refl e)
first_undecided_at r (suc s) (skipped ∷ ds) l e = omega (arith, first_undecided_at (suc r) s ds (le_of_suc-le-suc l) e)
first_undecided_at r (suc s) (committed a ∷ ds) l e = omega (arith, first_undecided_at (suc r) s ds (le_of_suc-le-suc l) e)

-- the first undecided round of a table that has records is 1 to the highest
pub first_undecided_range : {n : ℕ} {vs : List Vertex} → Accepted n vs → 0 < length vs
    → (1 ≤ first_undecided 1 (decisions (box_setting n) n vs)) × (first_undecided 1 (decisions (box_setting n) n vs) ≤ highest vs)
first_undecided_range {n} {vs} A h =
    let ds : List (Decision ℕ) = decisions (box_setting n) n vs in
    let within : highest vs - 1 < length ds = omega (arith, highest_pos A h, decisions_length (box_setting n) n vs) in
    (first_undecided_low 1 ds, omega (arith, highest_pos A h, first_undecided_at 1 (highest vs - 1) ds within (highest_undecided A h)))
