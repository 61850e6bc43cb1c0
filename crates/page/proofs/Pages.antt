-- A page grows by a line.
-- Assumes nothing.
use Prim.Native.Nat.{ℕ, zero, suc, ◌+◌, ◌-◌, ◌≤◌}
use mathlib.Core.Path.{◌≡◌, refl, sym, ap, ◌∙◌}
use mathlib.Core.Bool.{Bool, true, false, cond}
use mathlib.Core.List.{List, [], ◌++◌, append_assoc, append-nil}
use native.Mathlib.Numerals.{add-one}
use native.Mathlib.Omega.{arith}
use lib.Dec.{leb}
use lib.ListN.{length, take, drop, length-append, length-drop, drop_of_length-le}
use lib.Seq.{take_at, drop_at, drop-drop}
use borrow.Author.Tests.{leb-true, le-leb}
use borrow.Rule.Slice.PartMut.{put_mid}
use Rattle.folds.proofs.Tests.{by_test}
use Rattle.rules.specs.Settlement.{written_over}
use Rattle.lines.specs.Fills.{Fills}
use Rattle.numbers.proofs.Numbers.{part_rest}
use Rattle.report.specs.Output.{joined}
use Rattle.page.specs.Page.{fitted, Page}

-- One line more, in what is left of the room, and none where that is too short.
abbrev Grows : (w g old part : List ℕ) → ℕ → Bool → Type 0
Grows w g old part r b = (r ≡ length (cond b g [])) × (w ++ part ≡ written_over (w ++ cond b g []) old)

grown : (w g old part : List ℕ) (r : ℕ) → Fills g (drop (length w) old) part r → Grows w g old part r (leb (length g) (length old - length w))
grown w g old part r q = cases (leb (length g) (length old - length w)) (rw length-drop)
  where
    cases : (b : Bool) → leb (length g) (length (drop (length w) old)) ≡ b → Grows w g old part r b
    cases true d =
        let e : part ≡ g ++ drop (length g) (drop (length w) old) = rw d at q.buffer in
        (rw d at q.answer, rw (e, drop-drop, length-append) (sym (append_assoc w g (drop (length w + length g) old))))
    cases false d =
        let e : part ≡ drop (length w) old = rw d at q.buffer in
        (rw d at q.answer, rw (e, append-nil w))

-- at most 112 bytes come
few : {g old new : List ℕ} {r : ℕ} → Fills g old new r → r ≤ 112
few {g} {old} {new} {r} q =
    by_test (leb (length g) (length old))
    (λ e. let a : r ≡ length g = rw e at q.answer in omega (arith, q.short))
    (λ e. let a : r ≡ 0 = rw e at q.answer in omega arith)

fitted_more : (f : ℕ → List ℕ) (room i : ℕ)
    → fitted f room (suc i) ≡ fitted f room i ++ cond (leb (length (f i)) (room - length (fitted f room i))) (f i) []
unfolding fitted
fitted_more f room i = refl

joined_more : (f : ℕ → List ℕ) (i : ℕ) → joined f (suc i) ≡ joined f i ++ f i
unfolding joined
joined_more f i = refl

-- The lines stay within the room.
room_next : (w g : List ℕ) (room : ℕ) → length w ≤ room → length (w ++ cond (leb (length g) (room - length w)) g []) ≤ room
room_next w g room h =
    by_test (leb (length g) (room - length w))
    (λ e. rw (e, length-append) (omega (arith, leb-true (length g) (room - length w) e)))
    (λ e. rw (e, append-nil) h)

fitted_room : (f : ℕ → List ℕ) (room i : ℕ) → length (fitted f room i) ≤ room
unfolding fitted
fitted_room f room zero = omega arith
fitted_room f room (suc i) = room_next (fitted f room i) (f i) room (fitted_room f room i)

module _ {f : ℕ → List ℕ} {old : List ℕ} where
  -- the buffer's length stays
  pub page_length : {i : ℕ} {new : List ℕ} {r : ℕ} → Page f old i new r → length new ≡ length old
  page_length {i} {new} {r} p =
      let w = fitted f (length old) i in
      let l : length new ≡ length w + (length old - length w) = ap length p.buffer ∙ simp (length-append, length-drop) in
      omega (arith, fitted_room f (length old) i)

  pub page_room : {i : ℕ} {new : List ℕ} {r : ℕ} → Page f old i new r → r ≤ length new
  page_room {i} {new} {r} p = omega (arith, p.answer, page_length p, fitted_room f (length old) i)

  pub page_none : Page f old 0 old 0
  unfolding fitted joined
  page_none = record { answer = refl; buffer = refl; short = omega arith; whole = λ h. refl }

  -- what is lent for line i is the rest of the buffer, and what comes back stands there
  pub page_next : {i : ℕ} {out part : List ℕ} {k r : ℕ} → Page f old i out k → Fills (f i) (take (length out - k) (drop k out)) part r
      → Page f old (i + 1) (put_mid k (length out - k) out part) (k + r)
  page_next {i} {out} {part} {k} {r} p q =
      let w = fitted f (length old) i in
      let n : length w ≡ k = sym p.answer in
      let front : take k out ≡ w = rw p.buffer (take_at w (drop (length w) old) k n) in
      let rest : take (length out - k) (drop k out) ≡ drop (length w) old = part_rest out k ∙ rw p.buffer (drop_at w (drop (length w) old) k n) in
      let none : drop (length out - k) (drop k out) ≡ [] = drop_of_length-le (drop k out) {i = length out - k} (rw length-drop (omega arith)) in
      let g = grown w (f i) old part r (rw rest at q) in
      let all : put_mid k (length out - k) out part ≡ w ++ part = rw (front, none) (ap (λ x. w ++ x) (append-nil part)) in
      rw (add-one i)
      (record {
        answer = rw (fitted_more, length-append) (omega (arith, g.0));
        buffer = rw fitted_more (all ∙ g.1);
        short = omega (arith, p.short, few q);
        whole = λ h.
            let e : leb (length (f i)) (length old - length w) ≡ true = le-leb (length (f i)) (length old - length w) (omega (arith, q.short, p.short)) in
            let same : w ≡ joined f i = p.whole (omega arith) in
            rw (fitted_more, e, joined_more) (ap (λ x. x ++ f i) same);
      })
