-- Small laws about decisions: the three cases are apart, a committed one has one vertex, and telling a vertex in another way changes no case.
-- Assumes nothing.
use Prim.Native.Nat.{ℕ}
use mathlib.Core.Path.{◌≡◌, refl}
use native.Mathlib.Omega.{arith}
use Rattle.rules.specs.Decision.{Decision, undecided, skipped, committed, Decided, tell}

pub skipped_apart : {A : Type 0} {a : A} {d : Decision A} → d ≡ committed a → d ≡ skipped → ⊥
skipped_apart p q = let z : ◌≡◌ {A = ℕ} 0 1 = cc in omega arith

pub committed_decided : {A : Type 0} {a : A} {d : Decision A} → d ≡ committed a → Decided d
committed_decided p q = let z : ◌≡◌ {A = ℕ} 0 1 = cc in omega arith

pub skipped_decided : {A : Type 0} {d : Decision A} → d ≡ skipped → Decided d
skipped_decided p q = let z : ◌≡◌ {A = ℕ} 0 1 = cc in omega arith

pub committed_same : {A : Type 0} {a b : A} {d : Decision A} → d ≡ committed a → d ≡ committed b → a ≡ b
committed_same p q = cc

-- what is told as committed was committed
pub tell_committed : {A B : Type 0} (f : A → B) (d : Decision A) (y : B) → tell f d ≡ committed y → (x : A) × (d ≡ committed x) × (f x ≡ y)
unfolding tell
tell_committed f undecided y e = absurd (committed_decided e refl)
tell_committed f skipped y e = absurd (skipped_apart e refl)
tell_committed f (committed x) y e = (x, refl, committed_same refl e)

-- what is decided is told as decided
pub tell_decided : {A B : Type 0} (f : A → B) (d : Decision A) → Decided d → Decided (tell f d)
unfolding tell
tell_decided f undecided h e = h refl
tell_decided f skipped h e = skipped_decided refl e
tell_decided f (committed x) h e = committed_decided refl e
