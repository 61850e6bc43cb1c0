-- The lines that the calls give, one after the other, are what document 01's program prints.
-- Assumes nothing.
use Prim.Native.Nat.{ℕ, zero, suc, ◌+◌, ◌-◌, ◌<◌}
use mathlib.Core.Path.{◌≡◌, refl, sym, ap, ◌∙◌}
use mathlib.Core.List.{List, [], ◌∷◌, ◌++◌, append_assoc, append-nil, map}
use native.Mathlib.Omega.{arith}
use lib.ListN.{length, get_or}
use borrow.Author.Tests.{lt-ltb, le-ltb}
use Rattle.rules.specs.declared.Vertex.{Vertex}
use Rattle.rules.specs.declared.Counts.{Counts}
use Rattle.rules.specs.Refusals.{Told, gives, refused}
use Rattle.rules.specs.Record.{first, vertices, at}
use Rattle.rules.specs.Decision.{Decision, cell, said}
use Rattle.rules.specs.Decide.{box_setting, decisions, decision_at}
use Rattle.rules.specs.Order.{write_from}
use Rattle.rules.specs.Settlement.{Buffers, written_over, counts_of, settled, settle_if}
use Rattle.rules.specs.Program.{line_s, line_r, line_v, lines_r, lines_v, lines}
use Rattle.rules.proofs.Cells.{cell_at, place_at}
use Rattle.rules.proofs.Decide.{decisions_length}
use Rattle.report.specs.Output.{later_line, settled_line, output_line, output_lines, joined, output}

-- ---- lines one after the other

-- the first line, then the others
joined_front : (f : ℕ → List ℕ) (k : ℕ) → joined f (suc k) ≡ f 0 ++ joined (λ i. f (suc i)) k
unfolding joined
joined_front f zero = sym (append-nil (f 0))
joined_front f (suc k) = rw (joined_front f k) (append_assoc (f 0) (joined (λ i. f (suc i)) k) (f (suc k)))

-- some lines, then the others
joined_more : (f : ℕ → List ℕ) (j k : ℕ) → joined f (j + k) ≡ joined f j ++ joined (λ i. f (j + i)) k
unfolding joined
joined_more f j zero = let e : j + 0 ≡ j = omega arith in rw e (sym (append-nil (joined f j)))
joined_more f j (suc k) =
    let e : j + suc k ≡ suc (j + k) = omega arith in
    rw (e, joined_more f j k) (append_assoc (joined f j) (joined (λ i. f (j + i)) k) (f (j + k)))

joined_same : (f g : ℕ → List ℕ) (k : ℕ) → ((i : ℕ) → i < k → f i ≡ g i) → joined f k ≡ joined g k
unfolding joined
joined_same f g zero h = refl
joined_same f g (suc k) h = rw (joined_same f g k (λ i l. h i (omega arith)), h k (omega arith))

-- ---- the rounds and the written vertices

rounds_next : (vs : List Vertex) (r : ℕ) (d : Decision ℕ) (ds : List (Decision ℕ))
    → lines_r vs (suc r) ds ≡ joined (λ k. line_r vs (r + suc k) (decision_at ds k)) (length ds)
    → lines_r vs r (d ∷ ds) ≡ joined (λ k. line_r vs (r + k) (decision_at (d ∷ ds) k)) (suc (length ds))
unfolding lines_r
rounds_next vs r d ds h =
    let z : r + 0 ≡ r = omega arith in
    ap (λ x. line_r vs r d ++ x) h
    ∙ ap (λ x. line_r vs x d ++ joined (λ k. line_r vs (r + suc k) (decision_at ds k)) (length ds)) (sym z)
    ∙ sym (joined_front (λ k. line_r vs (r + k) (decision_at (d ∷ ds) k)) (length ds))

rounds_joined : (vs : List Vertex) (r : ℕ) (ds : List (Decision ℕ)) → lines_r vs r ds ≡ joined (λ k. line_r vs (r + k) (decision_at ds k)) (length ds)
unfolding lines_r joined
rounds_joined vs r [] = refl
rounds_joined vs r (d ∷ ds) =
    let f : ℕ → List ℕ = λ k. line_r vs (r + k) (decision_at (d ∷ ds) k) in
    rounds_next vs r d ds
    (rounds_joined vs (suc r) ds ∙ joined_same _ (λ k. f (suc k)) (length ds) (λ i h. let e : suc r + i ≡ r + suc i = omega arith in rw e))

written_joined : (vs : List Vertex) (ps : List ℕ) → lines_v vs ps ≡ joined (λ k. line_v (at vs (get_or ps k 0))) (length ps)
unfolding lines_v joined
written_joined vs [] = refl
written_joined vs (p ∷ ps) = rw (written_joined vs ps) (sym (joined_front (λ k. line_v (at vs (get_or (p ∷ ps) k 0))) (length ps)))

-- ---- the whole output

module _ (c : Counts) (t cells order : List ℕ) (ds : List (Decision ℕ)) (ps : List ℕ) (rounds : length ds ≡ c.highest) (places : length ps ≡ c.written)
    (decided : (k : ℕ) → k < length ds → said (get_or cells k 0) ≡ decision_at ds k) (written : (k : ℕ) → k < length ps → get_or order k 0 ≡ get_or ps k 0) where
  abbrev vs : List Vertex
  vs = vertices first t

  later_rounds : joined (later_line c vs cells order) (length ds) ≡ lines_r vs 1 ds
  unfolding later_line
  later_rounds =
      joined_same _ _ (length ds)
      (λ k h. let e : suc k ≡ 1 + k = omega arith in rw (lt-ltb k c.highest (omega arith), decided k h, e))
      ∙ sym (rounds_joined vs 1 ds)

  later_written : joined (λ k. later_line c vs cells order (length ds + k)) (length ps) ≡ lines_v vs ps
  unfolding later_line
  later_written =
      joined_same _ _ (length ps)
      (λ k h.
      let e : length ds + k - c.highest ≡ k = omega arith in
      rw (le-ltb (length ds + k) c.highest (omega arith), e, lt-ltb k c.written (omega arith), written k h))
      ∙ sym (written_joined vs ps)

  -- the counts, the rounds, the written vertices
  pub output_settled : output (gives c) t cells order ≡ line_s c ++ lines_r vs 1 ds ++ lines_v vs ps
  unfolding output output_lines output_line settled_line
  output_settled =
      let e : 1 + c.highest + c.written ≡ suc (length ds + length ps) = omega arith in
      let later : joined (later_line c vs cells order) (length ds + length ps) ≡ lines_r vs 1 ds ++ lines_v vs ps =
      joined_more (later_line c vs cells order) (length ds) (length ps) ∙ rw (later_rounds, later_written) in
      rw e (joined_front (output_line (gives c) t cells order) (length ds + length ps) ∙ ap (λ x. line_s c ++ x) later
      ∙ sym (append_assoc (line_s c) (lines_r vs 1 ds) (lines_v vs ps)))

-- What a settlement gives and leaves, printed line by line, is what the program prints where the same check refuses or passes.
pub output_is : (k : Told (Unit {0})) (n : ℕ) (t : List ℕ) (b : Buffers)
    → output (settle_if k (box_setting n) n (vertices first t) b).outcome t
    (settle_if k (box_setting n) n (vertices first t) b).buffers.cells (settle_if k (box_setting n) n (vertices first t) b).buffers.order
    ≡ lines k (box_setting n) n (vertices first t)
unfolding settle_if settled counts_of lines output output_line output_lines joined
output_is (refused r values) n t b = refl
output_is (gives a) n t b =
    let ds = decisions (box_setting n) n (vertices first t) in
    let ps = write_from (box_setting n).step (vertices first t) [] ds in
    output_settled (counts_of n (vertices first t) ds ps) t (written_over (map cell ds) b.cells) (written_over ps b.order) ds ps
    (decisions_length (box_setting n) n (vertices first t)) refl (cell_at ds b.cells) (place_at ps b.order)
