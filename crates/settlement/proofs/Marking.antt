-- What one position makes due, and what a vertex makes due by its entries, one after the other.
-- Assumes nothing.
use Prim.Native.Nat.{ℕ, ◌+◌, ◌≤◌, ◌<◌}
use mathlib.Core.Path.{◌≡◌, refl, sym, ap, ◌∙◌}
use mathlib.Core.Logic.{◌≢◌}
use mathlib.Core.Bool.{Bool, true, false, cond}
use mathlib.Core.List.{List}
use native.Mathlib.Omega.{arith}
use native.Mathlib.Nat.{le_refl}
use lib.Dec.{eqb}
use lib.ListN.{length, get_or, set, length-set}
use lib.Seq.{get_or-set_other, set-get_or}
use borrow.Author.Tests.{eq-eqb, ne_eqb}
use Rattle.folds.specs.Folds.{◌and◌, ◌or◌, bytes_over}
use Rattle.folds.proofs.Tests.{by_test, or_right}
use Rattle.rules.specs.declared.Vertex.{Vertex}
use Rattle.rules.specs.Record.{at, entry, entry_name, find}
use Rattle.rules.specs.Support.{references}
use Rattle.rules.proofs.Accepted.{Accepted}
use Rattle.settlement.specs.Write.{MarkedOne, MarkedMore}
use Rattle.folds.proofs.Over.{or_last, over_at, over_same, over_set, over_none}
use Rattle.decide.proofs.Marked.{named_to, named_none, named_all, named_same, named_next}

-- ---- what one position marks

-- a position that is not 0 stays
pub one_kept : (q low : ℕ) (m : List ℕ) → get_or m q 0 ≢ 0 → MarkedOne q low m low m
one_kept q low m d = record { bytes = rw (ne_eqb _ _ d) (sym (set-get_or m q 0)); lower = le_refl low; none_below = λ i l. refl }

-- one that is 0 is marked
pub one_marked : (q low lowest : ℕ) (m : List ℕ) → get_or m q 0 ≡ 0 → lowest ≤ low → lowest ≤ q → MarkedOne q low m lowest (set m q 2)
one_marked q low lowest m e l h = record { bytes = rw (eq-eqb _ _ e); lower = l; none_below = λ i li. get_or-set_other m q i 2 0 (λ w. omega arith) }

-- ---- what the vertex at p marks, by its first i entries

abbrev pub told_to : List Vertex → (p i : ℕ) → List ℕ → ℕ → ℕ
told_to vs p i m q = cond (eqb (get_or m q 0) 0 and named_to vs p i q) 2 (get_or m q 0)

-- a byte that is marked once more
again : (x : ℕ) (b : Bool) → cond (eqb (cond (eqb x 0 and b) 2 x) 0) 2 (cond (eqb x 0 and b) 2 x) ≡ cond (eqb x 0 and true) 2 x
unfolding ◌and◌
again x true = by_test (eqb x 0) (λ e. rw e) (λ e. rw (e, e))
again x false = by_test (eqb x 0) (λ e. rw (e, e)) (λ e. rw (e, e))

-- The first i entries have marked what they name, and nothing below `lowest`.
pub record More (vs : List Vertex) (p : ℕ) (m : List ℕ) (low i lowest : ℕ) (new : List ℕ) : Type 0 where
  pub kept : length new ≡ length m
  pub lower : lowest ≤ low
  pub none_below : (q : ℕ) → q < lowest → get_or new q 0 ≡ get_or m q 0
  pub bytes : new ≡ bytes_over (told_to vs p i m) (length vs) m

module _ {n : ℕ} {vs : List Vertex} (A : Accepted n vs) (p : ℕ) (l : p < length vs) (m : List ℕ) where
  pub more_start : (low : ℕ) → length vs ≤ length m → More vs p m low 0 low m
  unfolding ◌and◌
  more_start low w = record {
    kept = refl;
    lower = le_refl low;
    none_below = λ q l. refl;
    bytes = over_none _ (length vs) m w (λ q h. none (eqb (get_or m q 0) 0) (named_to vs p 0 q) (named_none vs p q) (get_or m q 0));
  }
    where
      none : (a b : Bool) → b ≡ false → (x : ℕ) → cond (a and b) 2 x ≡ x
      none true b e x = rw e
      none false b e x = refl

  module _ (low i lowest : ℕ) (b : List ℕ) (M : More vs p m low i lowest b) where
    -- entry i is 0
    pub more_same : entry (at vs p) i ≡ 0 → More vs p m low (i + 1) lowest b
    more_same z = record {
      kept = M.kept;
      lower = M.lower;
      none_below = M.none_below;
      bytes = M.bytes ∙ over_same _ (length vs) m _ (λ q h. ap (λ x. cond (eqb (get_or m q 0) 0 and x) 2 (get_or m q 0)) (sym (named_same A p l i q z)));
    }

    -- it names the vertex at q
    pub more_next : (q lowest' : ℕ) (b' : List ℕ) → entry (at vs p) i ≢ 0 → q ≡ find vs (entry_name (at vs p) i) → q < length vs
        → MarkedOne q lowest b lowest' b' → More vs p m low (i + 1) lowest' b'
    more_next q lowest' b' f e lq one = record {
      kept = ap length one.bytes ∙ simp length-set M.kept;
      lower = omega (arith, one.lower, M.lower);
      none_below = λ j h. one.none_below j h ∙ M.none_below j (omega (arith, one.lower));
      bytes = one.bytes ∙ next;
    }
      where
        at_q : get_or b q 0 ≡ told_to vs p i m q
        at_q = ap (λ x. get_or x q 0) M.bytes ∙ over_at (told_to vs p i m) (length vs) m q lq

        is_named : named_to vs p (i + 1) q ≡ true
        is_named = named_next A p l i f q lq ∙ or_right _ _ (eq-eqb q _ e)

        value : cond (eqb (get_or b q 0) 0) 2 (get_or b q 0) ≡ told_to vs p (i + 1) m q
        value =
            ap (λ x. cond (eqb x 0) 2 x) at_q ∙ again (get_or m q 0) (named_to vs p i q) ∙ ap (λ x. cond (eqb (get_or m q 0) 0 and x) 2 (get_or m q 0)) (sym is_named)

        other : (j : ℕ) → j < length vs → j ≢ q → named_to vs p i j ≡ named_to vs p (i + 1) j
        other j lj d = sym (named_next A p l i f j lj ∙ ap (λ x. named_to vs p i j or x) (ne_eqb j _ (λ w. d (w ∙ sym e))) ∙ sym (or_last _))

        next : set b q (cond (eqb (get_or b q 0) 0) 2 (get_or b q 0)) ≡ bytes_over (told_to vs p (i + 1) m) (length vs) m
        next =
            ap (λ x. set x q (cond (eqb (get_or b q 0) 0) 2 (get_or b q 0))) M.bytes
            ∙ over_set (told_to vs p i m) (length vs) m (told_to vs p (i + 1) m) q _ lq value
            (λ j lj d. ap (λ x. cond (eqb (get_or m j 0) 0 and x) 2 (get_or m j 0)) (other j lj d))

    -- it is the last
    pub more_end : n ≤ i → MarkedMore references vs p low m lowest b
    more_end h = record {
      bytes = M.bytes ∙ over_same _ (length vs) m _ (λ q lq. ap (λ x. cond (eqb (get_or m q 0) 0 and x) 2 (get_or m q 0)) (named_all A p l i q h lq));
      lower = M.lower;
      none_below = M.none_below;
    }
