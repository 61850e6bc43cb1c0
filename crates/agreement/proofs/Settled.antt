-- One table that passes, no premise on its authors: once a run of slots is decided, the last of them committed, and every earlier search starts within
-- reach of it, all earlier slots are decided. Of document 01: three rounds in a row decided, the last of them committed.
-- Assumes nothing.
use Prim.Native.Nat.{ℕ, ◌+◌, ◌≤◌, ◌<◌}
use mathlib.Core.Path.{◌≡◌, subst}
use mathlib.Core.Logic.{◌⊎◌, inl, inr}
use mathlib.Core.Bool.{Bool, true}
use mathlib.Core.List.{List}
use native.Mathlib.Omega.{arith}
use native.Mathlib.Nat.{le_refl}
use Rattle.folds.proofs.Tests.{compare}
use Rattle.rules.specs.declared.Vertex.{Vertex}
use Rattle.rules.specs.Record.{at}
use Rattle.rules.specs.Decision.{Decision, skipped, committed, Decided}
use Rattle.rules.specs.Support.{direct_commit}
use Rattle.rules.specs.History.{history}
use Rattle.rules.specs.Decide.{Setting, box_setting, certified_in, through_anchor, decisions, decision_at}
use Rattle.rules.proofs.Accepted.{Accepted}
use Rattle.rules.proofs.Decisions.{committed_decided, skipped_decided}
use Rattle.rules.proofs.Decide.{Chosen, chosen, nobody, choose_is, Because, direct, skips, through, blocked, past, because, past_stops}
use Rattle.agreement.proofs.Boxes.{Why, by_commit, by_skip, by_anchor, by_nothing, Box, settled_below}
use Rattle.rules.proofs.Slots.{one_leader_lem}

module _ (C : Setting) (later : (s : ℕ) → s < C.slots.start s) {n : ℕ} {vs : List Vertex} (A : Accepted n vs) where
  abbrev dec : ℕ → Decision ℕ
  dec s = decision_at (decisions C n vs) s

  -- the table as a box of its own, its vertices told by their positions
  box : Box ℕ C.slots.start
  box = record {
    Commits = λ s p. direct_commit n vs (at vs p) ≡ true;
    Skips = λ s. C.skip n vs (C.slots.round_of s) (C.slots.leader_of s) ≡ true;
    pick = through_anchor C n vs;
    dec = dec;
    why = λ s. by_position s (because C later A s);
  }
    where
      by_position : (s : ℕ) → Because C n vs s (dec s)
          → Why C.slots.start (λ s p. direct_commit n vs (at vs p) ≡ true) (λ s. C.skip n vs (C.slots.round_of s) (C.slots.leader_of s) ≡ true)
          (through_anchor C n vs) dec s
      by_position s (direct p l i c m e) = by_commit p c e
      by_position s (skips none k e) = by_skip k e
      by_position s (through none t a l f g e) = by_anchor t a l f g e
      by_position s (blocked none t l f g e) = by_nothing t l f g e
      by_position s (past o e) = let k = past_stops C later A s o in by_nothing (C.slots.start s) (le_refl (C.slots.start s)) k.0 k.1 e

  anchor_decides : (s a : ℕ) → Decided (through_anchor C n vs s a)
  unfolding through_anchor
  anchor_decides s a = either_way (choose_is A C.slots s (certified_in n vs (history C.step vs a)) skipped)
    where
      either_way : {ok : Vertex → Bool} {d : Decision ℕ} → Chosen C.slots vs s ok skipped d → Decided d
      either_way (chosen p l i c b e) = committed_decided e
      either_way (nobody none e) = skipped_decided e

  -- All slots from `low` to `top` are decided, `top` is committed, and every slot below `low` starts its search at or before `top`.
  pub all_below : (top a : ℕ) → dec top ≡ committed a → (low : ℕ) → ((u : ℕ) → low ≤ u → u ≤ top → Decided (dec u))
      → ((s : ℕ) → s < low → C.slots.start s ≤ top)
      → (s : ℕ) → s ≤ top → Decided (dec s)
  unfolding box
  all_below = settled_below later box (λ s t a e. anchor_decides s a)

-- Three rounds in a row are decided and the last of them is committed: then every earlier round is decided. Slot s is that of round s + 1.
pub three_decided : {n : ℕ} {vs : List Vertex} → Accepted n vs → (s a : ℕ) → Decided (decision_at (decisions (box_setting n) n vs) s)
    → Decided (decision_at (decisions (box_setting n) n vs) (s + 1)) → decision_at (decisions (box_setting n) n vs) (s + 2) ≡ committed a
    → (u : ℕ) → u ≤ s + 2 → Decided (decision_at (decisions (box_setting n) n vs) u)
three_decided {n} {vs} A s a h0 h1 h2 = all_below (box_setting n) (one_leader_lem n).later A (s + 2) a h2 s run (λ u l. omega arith)
  where
    At : ℕ → Type 0
    At u = Decided (decision_at (decisions (box_setting n) n vs) u)

    run : (u : ℕ) → s ≤ u → u ≤ s + 2 → At u
    run u l l' = one_of_three (compare u (s + 1))
      where
        one_of_three : (u < s + 1) ⊎ ((u ≡ s + 1) ⊎ (s + 1 < u)) → At u
        one_of_three (inl h) = let e : s ≡ u = omega arith in subst At e h0
        one_of_three (inr (inl e)) = subst At (omega arith) h1
        one_of_three (inr (inr h)) = let e : s + 2 ≡ u = omega arith in subst At e (committed_decided h2)
