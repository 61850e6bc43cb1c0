-- What the settlement promises, by its three ways out: the table's refusal, a lent buffer that is too short, and a settled table.
-- Assumes nothing.
use Prim.Native.Nat.{ℕ, zero, suc, ◌+◌, ◌≤◌, ◌<◌}
use mathlib.Core.Path.{◌≡◌, refl, sym, ap, ◌∙◌}
use mathlib.Core.Bool.{Bool, false}
use mathlib.Core.List.{List, [], ◌∷◌, ◌++◌, map}
use native.Mathlib.Omega.{arith}
use native.Mathlib.Nat.{le_refl, le_of_suc-le-suc, not-suc-le-zero}
use lib.Dec.{eqb}
use lib.ListN.{length, get_or, take, drop, length-map, get_or-map}
use lib.Seq.{drop_at}
use borrow.Author.Tests.{ne_eqb, ltb-false}
use Rattle.std.proofs.lemmas.List.{length-take-le, get_or-take}
use Rattle.folds.specs.Folds.{first_to, tabulate, bytes_over}
use Rattle.folds.proofs.Tests.{or_neither}
use Rattle.folds.proofs.Laws.{First, first_by, first_is}
use Rattle.folds.proofs.Lists.{length_tabulate}
use Rattle.rules.specs.declared.Vertex.{Vertex}
use Rattle.rules.specs.declared.Refusal.{Refusal}
use Rattle.std.specs.declared.result.Result.TheVariants.{Ok, Err}
use Rattle.rules.specs.declared.Counts.{Counts}
use Rattle.rules.specs.declared.Settlement.{Settlement}
use Rattle.rules.specs.Record.{first, records, vertices}
use Rattle.rules.specs.Check.{check}
use Rattle.rules.specs.Decision.{Decision, undecided, skipped, committed, cell}
use Rattle.rules.specs.Decide.{box_setting, highest, decisions, decision_at}
use Rattle.rules.specs.Order.{order, first_undecided}
use Rattle.rules.specs.Refusals.{gives, passed, tells}
use Rattle.rules.specs.Settlement.{Buffers, lent, written_over, taken_bytes, too_short, lent_check, equivocators, counts_of, settled, settle_if, settle}
use Rattle.rules.proofs.Refusals.{then_both, when_passed}
use Rattle.rules.proofs.Records.{vertices_length}
use Rattle.rules.proofs.Decide.{decisions_length}
use Rattle.folds.proofs.Over.{over_over, over_length}
use Rattle.decide.specs.Ready.{Sound}
use Rattle.decide.proofs.Sound.{sound}
use Rattle.rules.proofs.Cells.{place_at}
use Rattle.settlement.proofs.Places.{written_length}
use Rattle.settlement.specs.Write.{Decided}
use Rattle.decide.specs.Promise.{DecidesTo, cells_after, taken_after}
use Rattle.settlement.specs.Promise.{SettlesTo}

-- ---- the first undecided round, by the cells

record FirstOpen (s : ℕ) (ds : List (Decision ℕ)) : Type 0 where
  place : ℕ
  is : first_undecided s ds ≡ s + place
  first_open : First (λ t. eqb (cell (decision_at ds t)) 0) (length ds) place

further : (s : ℕ) (d : Decision ℕ) (ds : List (Decision ℕ)) → first_undecided s (d ∷ ds) ≡ first_undecided (suc s) ds → eqb (cell d) 0 ≡ false
    → FirstOpen (suc s) ds → FirstOpen s (d ∷ ds)
further s d ds e closed F = record {
  place = suc F.place;
  is = e ∙ F.is ∙ omega arith;
  first_open = record { within = omega (arith, F.first_open.within); before = before; hit = λ l. F.first_open.hit (le_of_suc-le-suc l) };
}
  where
    before : (i : ℕ) → i < suc F.place → eqb (cell (decision_at (d ∷ ds) i)) 0 ≡ false
    before zero l = closed
    before (suc i) l = F.first_open.before i (le_of_suc-le-suc l)

first_open_is : (s : ℕ) (ds : List (Decision ℕ)) → FirstOpen s ds
unfolding first_undecided
first_open_is s [] = record {
  place = 0;
  is = omega arith;
  first_open = record { within = le_refl 0; before = λ i l. absurd (not-suc-le-zero l); hit = λ l. absurd (not-suc-le-zero l) };
}
first_open_is s (undecided ∷ ds) = record {
  place = 0;
  is = omega arith;
  first_open = record { within = omega arith; before = λ i l. absurd (not-suc-le-zero l); hit = λ l. refl };
}
first_open_is s (skipped ∷ ds) = further s skipped ds refl refl (first_open_is (suc s) ds)
first_open_is s (committed a ∷ ds) = further s (committed a) ds refl (ne_eqb (2 + a) 0 (λ e. omega arith)) (first_open_is (suc s) ds)

-- ---- the cells

-- a cell holds the decision of its slot
cell_at : (ds : List (Decision ℕ)) (old : List ℕ) (t : ℕ) → t < length ds → get_or (written_over (map cell ds) old) t 0 ≡ cell (decision_at ds t)
cell_at ds old t l = place_at (map cell ds) old t (rw (length-map ds cell) l) ∙ get_or-map cell ds t undecided

-- the first cell that is 0 is that of the first undecided round
pub open_cell : (ds : List (Decision ℕ)) (cells : List ℕ) → length cells ≡ length ds → ((t : ℕ) → t < length cells → get_or cells t 0 ≡ cell (decision_at ds t))
    → 1 + first_to (λ t. eqb (get_or cells t 0) 0) (length cells) ≡ first_undecided 1 ds
open_cell ds cells e h = ap (λ m. 1 + m) (first_by _ (length cells) F.place found) ∙ sym F.is
  where
    F : FirstOpen 1 ds
    F = first_open_is 1 ds

    found : First (λ t. eqb (get_or cells t 0) 0) (length cells) F.place
    found = record {
      within = omega (arith, F.first_open.within);
      before = λ i l. ap (λ x. eqb x 0) (h i (omega (arith, F.first_open.within))) ∙ F.first_open.before i l;
      hit = λ l. ap (λ x. eqb x 0) (h F.place l) ∙ F.first_open.hit (omega arith);
    }

-- it is at most one past the last
pub open_low : (t : ℕ → Bool) (top : ℕ) → first_to t top ≤ top
open_low t top = (first_is t top).within

-- ---- the ways out, by the answer of `decide`

module _ (n : ℕ) (t : List ℕ) (b : Buffers) where
  abbrev vs : List Vertex
  vs = vertices first t

  -- a refusal leaves all as it was
  pub refused_to : (x : Settlement) (r : Refusal) (cells taken : List ℕ) → DecidesTo n t b (Err r) cells taken → x.outcome ≡ Err r
      → SettlesTo n t b x (lent cells b.order taken)
  unfolding settle settle_if cells_after taken_after
  refused_to x r cells taken D o =
      let e = sym D.answer in
      record { outcome = rw e (ap tells o); cells = rw e D.in_cells; order = rw e; taken = rw e D.in_taken }

  -- a settled table
  module _ (cells taken : List ℕ) (D : DecidesTo n t b (Ok tt) cells taken) where
    abbrev ds : List (Decision ℕ)
    ds = decisions (box_setting n) n vs

    -- every decision is in its cell
    decided_cells : cells ≡ written_over (map cell ds) b.cells
    unfolding cells_after
    decided_cells = D.in_cells

    -- nothing is taken yet
    untaken : taken ≡ bytes_over (λ p. 0) (records first t) b.taken
    unfolding taken_after
    untaken = D.in_taken

    passes : check first n t ≡ passed
    unfolding lent_check
    passes = (then_both _ _ (sym D.answer)).0

    long_enough : too_short (box_setting n) vs b ≡ false
    unfolding lent_check
    long_enough = when_passed _ _ _ (then_both _ _ (sym D.answer)).1

    slots : highest vs ≤ length b.cells
    unfolding too_short
    slots = ltb-false _ _ (or_neither _ _ long_enough).0

    places : length vs ≤ length b.order
    unfolding too_short
    places = ltb-false _ _ (or_neither _ _ (or_neither _ _ long_enough).1).0

    bytes : length vs ≤ length b.taken
    unfolding too_short
    bytes = ltb-false _ _ (or_neither _ _ (or_neither _ _ long_enough).1).1

    -- so they may be said of what `decide` leaves, too
    none_taken : taken ≡ bytes_over (λ p. 0) (length vs) taken
    none_taken =
        rw (vertices_length first t)
        (untaken ∙ sym (ap (bytes_over (λ p. 0) (records first t)) untaken ∙ over_over (λ p. 0) (records first t) b.taken (λ p. 0)))

    room : length vs ≤ length taken
    room = let e = vertices_length first t in omega (arith, bytes, ap length untaken ∙ over_length (λ p. 0) (records first t) b.taken (omega (arith, bytes)))

    -- what the cells hold
    held : (s : ℕ) → s < highest vs → get_or cells s 0 ≡ cell (decision_at ds s)
    held s l = ap (λ c. get_or c s 0) decided_cells ∙ cell_at ds b.cells s (rw (decisions_length (box_setting n) n vs) l)

    pub wide : highest vs ≤ length cells
    wide = let e = decisions_length (box_setting n) n vs in omega (arith, slots, ap length decided_cells ∙ written_length (map cell ds) b.cells (rw length-map (omega (arith, slots))))

    -- the table is one that passed
    pub passed_sound : Sound first n t
    passed_sound = sound first n t passes

    module _ (h : ℕ) (e : h ≡ highest vs) where
      pub rounds : length (take h cells) ≡ h
      rounds = length-take-le h cells (omega (arith, wide))

      -- all that the order is written from
      pub decided : Decided (box_setting n) n vs (take h cells) b.order taken
      decided = record {
        in_cells = record { slots = omega (arith, rounds); held = λ s _ l. get_or-take h cells s 0 (omega arith) ∙ held s l };
        cleared = none_taken;
        places = places;
        room = room;
      }

    -- those past the records are as before
    past_records : (w : List ℕ) → written_over (taken_bytes w (length vs)) taken ≡ written_over (taken_bytes w (length vs)) b.taken
    unfolding taken_bytes bytes_over
    past_records w =
        let same : length (taken_bytes w (length vs)) ≡ records first t = length_tabulate _ (length vs) ∙ vertices_length first t in
        ap (λ d. taken_bytes w (length vs) ++ d)
        (ap (λ m. drop (length (taken_bytes w (length vs))) m) untaken
        ∙ drop_at (tabulate (λ p. 0) (records first t)) (drop (records first t) b.taken) _ (length_tabulate _ (records first t) ∙ sym same)
        ∙ ap (λ j. drop j b.taken) (sym same))

    pub settled_to : (x : Settlement) (order' taken' : List ℕ) (counts : Counts) → x.outcome ≡ Ok counts
        → counts ≡ counts_of n vs ds (order (box_setting n) n vs)
        → order' ≡ written_over (order (box_setting n) n vs) b.order → taken' ≡ written_over (taken_bytes (order (box_setting n) n vs) (length vs)) taken
        → SettlesTo n t b x (lent cells order' taken')
    unfolding settle settle_if settled order
    settled_to x order' taken' counts e q e2 e3 =
        let fits = sym D.answer in
        record {
          outcome = rw fits (ap tells e ∙ ap gives q);
          cells = rw fits decided_cells;
          order = rw fits e2;
          taken = rw fits (e3 ∙ past_records _);
        }

-- the counts, one by one
pub counts_are : (n : ℕ) (vs : List Vertex) (ds : List (Decision ℕ)) (w : List ℕ) (c : Counts) → c.records ≡ length vs → c.highest ≡ highest vs
    → c.undecided ≡ first_undecided 1 ds
    → c.written ≡ length w → c.equivocators ≡ equivocators n vs → c ≡ counts_of n vs ds w
unfolding counts_of
counts_are n _ _ w c p q r s u = λ i. record { records = p i; highest = q i; undecided = r i; written = s i; equivocators = u i }
