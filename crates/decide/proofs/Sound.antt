-- What follows of the check's answer: a table that passed is sound.
-- Assumes nothing.
use Prim.Native.Nat.{ℕ}
use mathlib.Core.Path.{◌≡◌}
use mathlib.Core.List.{List}
use native.Mathlib.Omega.{arith}
use native.Mathlib.Nat.{le_trans}
use lib.ListN.{length}
use Rattle.rules.specs.Refusals.{passed}
use Rattle.rules.specs.Record.{Edition}
use Rattle.rules.specs.Check.{check}
use Rattle.rules.proofs.Records.{vertices_length}
use Rattle.rules.proofs.Accepted.{check_passed, accepted}
use Rattle.rules.proofs.Rounds.{most_rounds_lem, table_rounds}
use Rattle.decide.specs.Ready.{Sound, Ready}

module _ (E : Edition) (n : ℕ) (t : List ℕ) (ok : check E n t ≡ passed) where
  pub sound : Sound E n t
  sound =
      let P = check_passed E n t ok in
      record {
        accepted = accepted E n t ok;
        few = rw (vertices_length E t) P.few;
        rounds = le_trans (table_rounds E n t ok) (most_rounds_lem n P.count);
      }

-- other work bytes, as many, are as good
pub ready_on : {E : Edition} {n : ℕ} {t old new : List ℕ} → Ready E n t old → length new ≡ length old → Ready E n t new
ready_on {new = new} R e = record { sound = R.sound; room = omega (arith, R.room, e) }
