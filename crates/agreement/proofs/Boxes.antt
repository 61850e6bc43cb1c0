-- Two boxes over numbered slots: a slot that both decide they decide alike. No vertex and no count is spoken of here;
-- `Fit` says what the direct rules and the anchors of the two have to obey, and `World` shows that they do.
-- Assumes nothing.
use Prim.Native.Nat.{ℕ, zero, suc, ◌+◌, ◌≤◌, ◌<◌}
use mathlib.Core.Path.{◌≡◌, sym, ap, ◌∙◌}
use mathlib.Core.Logic.{◌⊎◌, inl, inr}
use native.Mathlib.Omega.{arith}
use lib.Dec.{ltb}
use borrow.Author.Tests.{ltb-true, ltb-false}
use Rattle.folds.proofs.Tests.{by_test, compare}
use Rattle.rules.specs.Decision.{Decision, undecided, skipped, committed, Decided}
use Rattle.rules.proofs.Decisions.{skipped_apart, committed_decided, skipped_decided, committed_same}

-- Every slot from the start of the search of s up to t is skipped.
abbrev pub SkippedTo : {N : Type 0} → (ℕ → ℕ) → (ℕ → Decision N) → ℕ → ℕ → Type 0
SkippedTo start dec s t = (u : ℕ) → start s ≤ u → u < t → dec u ≡ skipped

-- Why slot s is decided as it is: the direct rules, or where its search stopped, at an anchor or at a slot that is undecided.
pub data Why {N : Type 0} (start : ℕ → ℕ) (Commits : ℕ → N → Type 0) (Skips : ℕ → Type 0) (pick : ℕ → N → Decision N) (dec : ℕ → Decision N)
    (s : ℕ) : Type 0 where
  by_commit : (b : N) → Commits s b → dec s ≡ committed b → Why start Commits Skips pick dec s
  by_skip : Skips s → dec s ≡ skipped → Why start Commits Skips pick dec s
  by_anchor : (t : ℕ) (a : N) → start s ≤ t → SkippedTo start dec s t → dec t ≡ committed a → dec s ≡ pick s a → Why start Commits Skips pick dec s
  by_nothing : (t : ℕ) → start s ≤ t → SkippedTo start dec s t → dec t ≡ undecided → dec s ≡ undecided → Why start Commits Skips pick dec s

-- One box: what it commits and skips directly, what it picks through an anchor, what it decides, and why.
pub record Box (N : Type 0) (start : ℕ → ℕ) : Type 1 where
  pub Commits : ℕ → N → Type 0
  pub Skips : ℕ → Type 0
  pub pick : ℕ → N → Decision N
  pub dec : ℕ → Decision N
  pub why : (s : ℕ) → Why start Commits Skips pick dec s

abbrev pub WhyIn : {N : Type 0} {start : ℕ → ℕ} → Box N start → ℕ → Type 0
WhyIn {start = start} X s = Why start X.Commits X.Skips X.pick X.dec s

-- What the direct rules of box X and the anchors of box Y have to do with one another.
pub record Fit {N : Type 0} {start : ℕ → ℕ} (X Y : Box N start) : Type 0 where
  pub commit_commit : (s : ℕ) (b c : N) → X.Commits s b → Y.Commits s c → b ≡ c
  pub commit_skip : (s : ℕ) (b : N) → X.Commits s b → Y.Skips s → ⊥
  pub commit_anchor : (s t : ℕ) (b a : N) → X.Commits s b → start s ≤ t → Y.dec t ≡ committed a → Y.pick s a ≡ committed b
  pub skip_anchor : (s t : ℕ) (a : N) → X.Skips s → start s ≤ t → Y.dec t ≡ committed a → Y.pick s a ≡ skipped
  pub anchor_anchor : (s t : ℕ) (a : N) → start s ≤ t → X.dec t ≡ committed a → Y.dec t ≡ committed a → X.pick s a ≡ Y.pick s a

-- What X decides directly, Y decides, and Y's anchors decide: so it is where Y has seen all that X has seen.
pub record Grows {N : Type 0} {start : ℕ → ℕ} (X Y : Box N start) : Type 0 where
  pub commits : (s : ℕ) (b : N) → X.Commits s b → Decided (Y.dec s)
  pub skips : (s : ℕ) → X.Skips s → Decided (Y.dec s)
  pub picks : (s t : ℕ) (a : N) → Y.dec t ≡ committed a → Decided (Y.pick s a)

-- From slot `top` on nothing is decided.
abbrev pub Ends : {N : Type 0} {start : ℕ → ℕ} → Box N start → ℕ → Type 0
Ends X top = (u : ℕ) → top ≤ u → X.dec u ≡ undecided

module _ {N : Type 0} {start : ℕ → ℕ} (later : (s : ℕ) → s < start s) (X Y : Box N start) (xy : Fit X Y) (yx : Fit Y X) where
  abbrev Same : ℕ → Type 0
  Same s = Decided (X.dec s) → Decided (Y.dec s) → X.dec s ≡ Y.dec s

  -- Slot s, where all later slots are known to be decided alike. Only two anchors need that: of two different ones, the earlier would
  -- be skipped by the other box; so there is one anchor.
  step : (s : ℕ) → ((t : ℕ) → s < t → Same t) → WhyIn X s → WhyIn Y s → Same s
  step s above (by_nothing t l f g e) w hx hy = absurd (hx e)
  step s above (by_commit b k e) (by_nothing t' l' f' g' e') hx hy = absurd (hy e')
  step s above (by_commit b k e) (by_commit c k' e') hx hy = e ∙ ap committed (xy.commit_commit s b c k k') ∙ sym e'
  step s above (by_commit b k e) (by_skip k' e') hx hy = absurd (xy.commit_skip s b k k')
  step s above (by_commit b k e) (by_anchor t a l f g e') hx hy = e ∙ sym (e' ∙ xy.commit_anchor s t b a k l g)
  step s above (by_skip k e) (by_nothing t' l' f' g' e') hx hy = absurd (hy e')
  step s above (by_skip k e) (by_commit c k' e') hx hy = absurd (yx.commit_skip s c k' k)
  step s above (by_skip k e) (by_skip k' e') hx hy = e ∙ sym e'
  step s above (by_skip k e) (by_anchor t a l f g e') hx hy = e ∙ sym (e' ∙ xy.skip_anchor s t a k l g)
  step s above (by_anchor t a l f g e) (by_nothing t' l' f' g' e') hx hy = absurd (hy e')
  step s above (by_anchor t a l f g e) (by_commit c k' e') hx hy = e ∙ yx.commit_anchor s t c a k' l g ∙ sym e'
  step s above (by_anchor t a l f g e) (by_skip k' e') hx hy = e ∙ yx.skip_anchor s t a k' l g ∙ sym e'
  step s above (by_anchor t a l f g e) (by_anchor t' a' l' f' g' e') hx hy = one_anchor (compare t t')
    where
      one_anchor : (t < t') ⊎ ((t ≡ t') ⊎ (t' < t)) → X.dec s ≡ Y.dec s
      one_anchor (inl lt) =
          let k = f' t l lt in absurd (skipped_apart g (above t (omega (arith, later s)) (committed_decided g) (skipped_decided k) ∙ k))
      one_anchor (inr (inl q)) =
          let k : Y.dec t ≡ committed a' = ap Y.dec q ∙ g' in
          let same : a ≡ a' = committed_same g (above t (omega (arith, later s)) (committed_decided g) (committed_decided k) ∙ k) in
          e ∙ xy.anchor_anchor s t a l g (k ∙ ap committed (sym same)) ∙ ap (Y.pick s) same ∙ sym e'
      one_anchor (inr (inr gt)) =
          let k = f t' l' gt in absurd (skipped_apart g' (sym (above t' (omega (arith, later s)) (skipped_decided k) (committed_decided g')) ∙ k))

  -- from the last slot downward: s is at most k below the end
  within : (k s top : ℕ) → Ends X top → top ≤ s + k → Same s
  within zero s top end h hx hy = absurd (hx (end s (omega arith)))
  within (suc k) s top end h hx hy = step s (λ t lt. within k t top end (omega arith)) (X.why s) (Y.why s) hx hy

  -- A slot that both have decided is decided alike.
  pub agree : (top : ℕ) → Ends X top → (s : ℕ) → Decided (X.dec s) → Decided (Y.dec s) → X.dec s ≡ Y.dec s
  agree top end s hx hy = within top s top end (omega arith) hx hy

  -- ---- growth

  abbrev Above : ℕ → Type 0
  Above s = (u : ℕ) → s < u → Decided (X.dec u) → Decided (Y.dec u)

  -- Where Y grows from X, what X decides Y decides; alike, by `agree`.
  pub grows : Grows X Y → (top : ℕ) → Ends X top → (s : ℕ) → Decided (X.dec s) → Decided (Y.dec s)
  grows g top end s₀ h₀ = up top s₀ (omega arith) h₀
    where
      -- Y's search for s cannot stop at an undecided slot: X has decided every slot up to its anchor
      never : (s t : ℕ) (a : N) → start s ≤ t → SkippedTo start X.dec s t → X.dec t ≡ committed a → Above s → (t' : ℕ) → start s ≤ t'
          → SkippedTo start Y.dec s t' → Y.dec t' ≡ undecided
          → (t < t') ⊎ ((t ≡ t') ⊎ (t' < t)) → ⊥
      never s t a l f e above t' l' f' e' (inl lt) = let k = f' t l lt in skipped_apart e (agree top end t (committed_decided e) (skipped_decided k) ∙ k)
      never s t a l f e above t' l' f' e' (inr (inl q)) = above t (omega (arith, later s)) (committed_decided e) (ap Y.dec q ∙ e')
      never s t a l f e above t' l' f' e' (inr (inr gt)) = above t' (omega (arith, later s)) (skipped_decided (f t' l' gt)) e'

      through : (s t : ℕ) (a : N) → start s ≤ t → SkippedTo start X.dec s t → X.dec t ≡ committed a → Above s → WhyIn Y s → Decided (Y.dec s)
      through s t a l f e above (by_commit b k q) z = committed_decided q z
      through s t a l f e above (by_skip k q) z = skipped_decided q z
      through s t a l f e above (by_anchor t' a' l' f' e' q) z = g.picks s t' a' e' (sym q ∙ z)
      through s t a l f e above (by_nothing t' l' f' e' q) z = never s t a l f e above t' l' f' e' (compare t t')

      from : (s : ℕ) → Above s → Decided (X.dec s) → WhyIn X s → Decided (Y.dec s)
      from s above h (by_commit b k q) = g.commits s b k
      from s above h (by_skip k q) = g.skips s k
      from s above h (by_anchor t a l f e q) = through s t a l f e above (Y.why s)
      from s above h (by_nothing t l f e q) = absurd (h q)

      up : (k s : ℕ) → top ≤ s + k → Decided (X.dec s) → Decided (Y.dec s)
      up zero s le h = absurd (h (end s (omega arith)))
      up (suc k) s le h = from s (λ u l hu. up k u (omega arith) hu) h (X.why s)

-- ---- one box

module _ {N : Type 0} {start : ℕ → ℕ} (later : (s : ℕ) → s < start s) (X : Box N start)
    (picks : (s t : ℕ) (a : N) → X.dec t ≡ committed a → Decided (X.pick s a)) where
  -- If every slot from `low` to `top` is decided, `top` is committed, and each slot below `low` starts its search at or before `top`,
  -- then every slot up to `top` is decided: a search that starts in that range stops at a committed slot.
  pub settled_below : (top : ℕ) (a : N) → X.dec top ≡ committed a → (low : ℕ) → ((u : ℕ) → low ≤ u → u ≤ top → Decided (X.dec u))
      → ((s : ℕ) → s < low → start s ≤ top)
      → (s : ℕ) → s ≤ top → Decided (X.dec s)
  settled_below top a e low all starts s le = down low s (omega arith) le
    where
      search : (s : ℕ) → start s ≤ top → ((u : ℕ) → s < u → u ≤ top → Decided (X.dec u)) → WhyIn X s → Decided (X.dec s)
      search s st above (by_commit b k q) z = committed_decided q z
      search s st above (by_skip k q) z = skipped_decided q z
      search s st above (by_anchor t b l f g q) z = picks s t b g (sym q ∙ z)
      search s st above (by_nothing t l f g q) z = cannot_stop (compare top t)
        where
          cannot_stop : (top < t) ⊎ ((top ≡ t) ⊎ (t < top)) → ⊥
          cannot_stop (inl lt) = skipped_apart e (f top st lt)
          cannot_stop (inr (inl w)) = above t (omega (arith, later s)) (omega arith) g
          cannot_stop (inr (inr gt)) = above t (omega (arith, later s)) (omega arith) g

      down : (k s : ℕ) → low ≤ s + k → s ≤ top → Decided (X.dec s)
      down zero s h h' = all s (omega arith) h'
      down (suc k) s h h' =
          by_test (ltb s low) (λ t. search s (starts s (ltb-true s low t)) (λ u l l'. down k u (omega arith) l') (X.why s)) (λ t. all s (ltb-false s low t) h')
