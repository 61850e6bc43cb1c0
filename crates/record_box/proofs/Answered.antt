-- What the program answers, by the length of its input.
-- Assumes nothing.
use Prim.Native.Nat.{ℕ, ◌≤◌, ◌<◌}
use mathlib.Core.Path.{◌≡◌}
use mathlib.Core.List.{List}
use lib.ListN.{length}
use borrow.Author.Tests.{lt-ltb, le-ltb}
use Rattle.rules.specs.declared.Settlement.{Settlement}
use Rattle.rules.specs.declared.Refusal.TheVariants.{Input}
use Rattle.std.specs.declared.result.Result.TheVariants.{Err}
use Rattle.rules.specs.Refusals.{refusal, ◌when◌, ◌then◌}
use Rattle.rules.specs.Record.{first}
use Rattle.rules.specs.Decide.{box_setting}
use Rattle.rules.specs.Settlement.{Buffers, settle_if, settle}
use Rattle.rules.specs.Program.{holds}
use Rattle.settlement.specs.Promise.{SettlesTo}
use Rattle.record_box.specs.Answer.{authors_in, table_in, checked, answered, Answers}

-- 12 answers before all else, and no memory is touched
long : (input : List ℕ) (b : Buffers) → holds < length input → answered input b ≡ record { outcome = refusal 12 0; buffers = b }
unfolding answered checked settle_if ◌when◌ ◌then◌
long input b h = rw (lt-ltb holds (length input) h)

-- else the settlement does
fits : (input : List ℕ) (b : Buffers) → length input ≤ holds
    → answered input b ≡ settle (box_setting (authors_in input)) first (authors_in input) (table_in input) b
unfolding answered checked settle ◌when◌ ◌then◌
fits input b h = rw (le-ltb holds (length input) h)

pub answers_long : (input : List ℕ) (b : Buffers) (r : Settlement) → holds < length input → r.outcome ≡ Err Input → Answers input b r b
answers_long input b r h e =
    let a = long input b h in
    record { outcome = rw (a, e); cells = rw a; order = rw a; taken = rw a }

pub answers_fits : (input t : List ℕ) (n : ℕ) (b a : Buffers) (r : Settlement) → length input ≤ holds → n ≡ authors_in input → t ≡ table_in input
    → SettlesTo n t b r a → Answers input b r a
answers_fits input t n b a r h x y s =
    let e = fits input b h in
    let s' : SettlesTo (authors_in input) (table_in input) b r a = rw (x, y) at s in
    record { outcome = rw e s'.outcome; cells = rw e s'.cells; order = rw e s'.order; taken = rw e s'.taken }
