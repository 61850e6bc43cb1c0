-- The search by halves: its turns, and that it finds the first number at which a test that holds up to some number and fails from there on fails.
-- Assumes nothing.
use Prim.Native.Nat.{ℕ, zero, suc, ◌+◌, ◌-◌, ◌/◌, ◌≤◌, ◌<◌, zero-le}
use mathlib.Core.Path.{◌≡◌, refl, sym, ◌∙◌}
use mathlib.Core.Bool.{Bool, true, false, not, cond}
use mathlib.Core.List.{List}
use native.Mathlib.Omega.{arith}
use native.Mathlib.Nat.{le_refl, not-suc-le-zero}
use lib.Dec.{ltb}
use borrow.Author.Tests.{ltb-true, ltb-false, lt-ltb, le-ltb}
use Rattle.folds.proofs.Tests.{by_test, not_both, passed, is_not, is_not_true}
use Rattle.folds.proofs.Laws.{First, first_by}
use Rattle.folds.specs.Folds.{◌and◌, first_to}
use Rattle.rules.specs.declared.Name.{Name}
use Rattle.rules.specs.Record.{same_name, below}
use Rattle.search.specs.Search.{halves, name_at, place_of, find_below}

-- ---- the turns

pub halves_end : (p : ℕ → Bool) (k lo hi : ℕ) → hi ≤ lo → halves p k lo hi ≡ lo
unfolding halves
halves_end p zero lo hi h = refl
halves_end p (suc k) lo hi h = rw (le-ltb lo hi h)

-- more turns than there are numbers change nothing
pub halves_enough : (p : ℕ → Bool) (j k lo hi : ℕ) → hi - lo ≤ j → hi - lo ≤ k → halves p j lo hi ≡ halves p k lo hi
unfolding halves
halves_enough p zero k lo hi h h' = sym (halves_end p k lo hi (omega arith))
halves_enough p (suc j) zero lo hi h h' = halves_end p (suc j) lo hi (omega arith)
halves_enough p (suc j) (suc k) lo hi h h' =
    let m : ℕ = lo + (hi - lo) / 2 in
    rw (halves_enough p j k (m + 1) hi (omega arith) (omega arith), halves_enough p j k lo m (omega arith) (omega arith))

-- one turn, with as many turns allowed as there are numbers
module _ (p : ℕ → Bool) (lo hi m : ℕ) (is : m ≡ lo + (hi - lo) / 2) (l : lo < hi) where
  turn : (j : ℕ) → hi - lo ≡ suc j → halves p (hi - lo) lo hi ≡ cond (p m) (halves p j (m + 1) hi) (halves p j lo m)
  unfolding halves
  turn j e = rw (e, lt-ltb lo hi l, is)

  pub halves_up : p m ≡ true → halves p (hi - lo) lo hi ≡ halves p (hi - (m + 1)) (m + 1) hi
  halves_up t = turn (hi - lo - 1) (omega arith) ∙ rw t (halves_enough p (hi - lo - 1) (hi - (m + 1)) (m + 1) hi (omega arith) (omega arith))

  pub halves_down : p m ≡ false → halves p (hi - lo) lo hi ≡ halves p (m - lo) lo m
  halves_down t = turn (hi - lo - 1) (omega arith) ∙ rw t (halves_enough p (hi - lo - 1) (m - lo) lo m (omega arith) (omega arith))

pub place_start : (t : List ℕ) (k : ℕ) (x : Name) → place_of t k x ≡ halves (λ p. below (name_at t p) x) (k - 0) 0 k
unfolding place_of
place_start t k x = let e : k - 0 ≡ k = omega arith in rw e

-- ---- the position of a name among the first k records

module _ (t : List ℕ) (k : ℕ) (x : Name) (m : ℕ) (is : m ≡ place_of t k x) where
  pub found_here : m < k → same_name (name_at t m) x ≡ true → find_below t k x ≡ m
  unfolding find_below ◌and◌
  found_here l s = rw (← is, lt-ltb m k l, s)

  pub found_other : m < k → same_name (name_at t m) x ≡ false → find_below t k x ≡ k
  unfolding find_below ◌and◌
  found_other l s = rw (← is, lt-ltb m k l, s)

  pub found_past : k ≤ m → find_below t k x ≡ k
  unfolding find_below ◌and◌
  found_past l = rw (← is, le-ltb m k l)

-- ---- what it finds

-- the test holds below lo and fails from hi on
pub record Between (p : ℕ → Bool) (k lo hi : ℕ) : Type 0 where
  pub ordered : lo ≤ hi
  pub within : hi ≤ k
  pub holds : (i : ℕ) → i < lo → p i ≡ true
  pub fails : (i : ℕ) → hi ≤ i → i < k → p i ≡ false

-- the test holds up to some number and fails from there on
abbrev pub Falls : (ℕ → Bool) → ℕ → Type 0
Falls p k = (i j : ℕ) → i ≤ j → j < k → p i ≡ false → p j ≡ false

-- one turn keeps what is known
step : (p : ℕ → Bool) (k : ℕ) → Falls p k → (lo hi up down : ℕ) → Between p k lo hi
    → (Between p k (lo + (hi - lo) / 2 + 1) hi → Between p k up up) → (Between p k lo (lo + (hi - lo) / 2) → Between p k down down)
    → let x = cond (ltb lo hi) (cond (p (lo + (hi - lo) / 2)) up down) lo in Between p k x x
step p k f lo hi up down b go-up go-down =
    by_test (ltb lo hi)
    (λ e. rw e (by_test (p m) (λ t. rw t (go-up (upper (ltb-true lo hi e) t))) (λ t. rw t (go-down (lower (ltb-true lo hi e) t)))))
    (λ e. rw e (stop (ltb-false lo hi e)))
  where
    m : ℕ
    m = lo + (hi - lo) / 2

    upper : lo < hi → p m ≡ true → Between p k (m + 1) hi
    upper l t = record {
      ordered = omega arith;
      within = b.within;
      holds = λ i li. passed _ (λ e. not_both t (f i m (omega arith) (omega (arith, b.within)) e));
      fails = b.fails;
    }

    lower : lo < hi → p m ≡ false → Between p k lo m
    lower l t = record { ordered = omega arith; within = omega (arith, b.within); holds = b.holds; fails = λ i li lk. f m i li lk t }

    stop : hi ≤ lo → Between p k lo lo
    stop l = record {
      ordered = le_refl lo;
      within = omega (arith, b.ordered, b.within);
      holds = b.holds;
      fails = λ i li lk. b.fails i (omega (arith, b.ordered)) lk;
    }

halves_between : (p : ℕ → Bool) (k : ℕ) → Falls p k → (j lo hi : ℕ) → hi - lo ≤ j → Between p k lo hi → Between p k (halves p j lo hi) (halves p j lo hi)
unfolding halves
halves_between p k f zero lo hi h b = record {
  ordered = le_refl lo;
  within = omega (arith, b.ordered, b.within);
  holds = b.holds;
  fails = λ i l l'. b.fails i (omega (arith, b.ordered)) l';
}
halves_between p k f (suc j) lo hi h b =
    let m : ℕ = lo + (hi - lo) / 2 in
    step p k f lo hi (halves p j (m + 1) hi) (halves p j lo m) b
    (λ b'. halves_between p k f j (m + 1) hi (omega arith) b')
    (λ b'. halves_between p k f j lo m (omega arith) b')

-- the search finds the first at which the test fails
pub halves_first : (p : ℕ → Bool) (k : ℕ) → Falls p k → halves p k 0 k ≡ first_to (λ i. not (p i)) k
halves_first p k f =
    let all : Between p k 0 k =
    record { ordered = zero-le; within = le_refl k; holds = λ i l. absurd (not-suc-le-zero l); fails = λ i l l'. absurd (omega arith) } in
    sym (first_by _ k _ (is (halves_between p k f k 0 k (omega arith) all)))
  where
    is : Between p k (halves p k 0 k) (halves p k 0 k) → First (λ i. not (p i)) k (halves p k 0 k)
    is b = record { within = b.within; before = λ i l. is_not_true (b.holds i l); hit = λ l. is_not (b.fails _ (le_refl _) l) }
