-- A line that is put together piece by piece, and its copy in a lent buffer.
-- Assumes nothing.
use Prim.Native.Nat.{ℕ, ◌+◌, ◌-◌, ◌≤◌}
use mathlib.Core.Path.{◌≡◌, refl, sym, ap, ◌∙◌}
use mathlib.Core.List.{List, [], ◌∷◌, ◌++◌, append_assoc, append-nil, map}
use native.Mathlib.Omega.{arith}
use lib.ListN.{length, take, drop, length-append, length-drop}
use lib.Seq.{length-take-le, take-append_seam}
use borrow.Author.Tests.{le-leb}
use Rattle.rules.specs.Program.{decimal, line}
use Rattle.lines.specs.Lines.{spaced}
use Rattle.lines.specs.Fills.{Fills}

-- ---- the line

-- With a word more put at its end, what follows is as before.
pub word_put : (l w : List ℕ) {r : List ℕ} → r ≡ l ++ 32 ∷ w → (ws : List (List ℕ)) → line l (w ∷ ws) ≡ line r ws
unfolding line
word_put l w e [] = rw e (sym (append_assoc l (32 ∷ w) (10 ∷ [])))
word_put l w e (v ∷ vs) = rw e (sym (append_assoc l (32 ∷ w) (32 ∷ line v vs)))

-- The same with numbers.
pub numbers_put : (l xs : List ℕ) {r : List ℕ} → r ≡ l ++ spaced xs → (ws : List (List ℕ)) → line l (map decimal xs ++ ws) ≡ line r ws
numbers_put l [] e ws = rw (e, append-nil l)
numbers_put l (x ∷ xs) e ws =
    let first : line l (decimal x ∷ (map decimal xs ++ ws)) ≡ line (l ++ 32 ∷ decimal x) (map decimal xs ++ ws) = word_put l (decimal x) refl _ in
    first ∙ numbers_put (l ++ 32 ∷ decimal x) xs (e ∙ sym (append_assoc l (32 ∷ decimal x) (spaced xs))) ws

-- The same where they are the last.
pub numbers_last : (l xs : List ℕ) {r : List ℕ} → r ≡ l ++ spaced xs → line l (map decimal xs) ≡ line r []
numbers_last l xs e =
    let all : map decimal xs ++ [] ≡ map decimal xs = append-nil (map decimal xs) in
    rw (← all) (numbers_put l xs e [])

-- ---- the buffer

-- A buffer that a line fills, with its end put, is filled by any bytes that are this line.
pub fills_line : (l : List ℕ) {bytes old new : List ℕ} {r : ℕ} → bytes ≡ line l [] → Fills (l ++ 10 ∷ []) old new r → Fills bytes old new r
unfolding line
fills_line l e p = rw e p

pub fills_so : (bytes old new : List ℕ) (r : ℕ) → length bytes ≤ 112 → length bytes ≡ r → r ≤ length old → new ≡ bytes ++ drop r old → Fills bytes old new r
fills_so bytes old new r s n h p =
    let q : length bytes ≤ length old = omega arith in
    let e = le-leb _ _ q in
    let l : length new ≡ length bytes + (length old - r) = ap length p ∙ simp (length-append, length-drop) in
    let w : r ≤ length new = omega arith in
    record { answer = rw (e, n); buffer = rw (e, n) p; short = s; within = w; part = sym (length-take-le r new w) }

-- what is handed over from a buffer of 112 bytes is the line
pub fills_whole : (bytes old new : List ℕ) (r : ℕ) → Fills bytes old new r → 112 ≤ length old → take r new ≡ bytes
fills_whole bytes old new r f h =
    let e = le-leb (length bytes) (length old) (omega (arith, f.short)) in
    let a : r ≡ length bytes = rw e at f.answer in
    let b : new ≡ bytes ++ drop (length bytes) old = rw e at f.buffer in
    rw (a, b) (take-append_seam bytes (drop (length bytes) old))

-- one answer, one buffer
pub fills_once : {bytes old m n : List ℕ} {r s : ℕ} → Fills bytes old m r → Fills bytes old n s → (r ≡ s) × (m ≡ n)
fills_once p q = (p.answer ∙ sym q.answer, p.buffer ∙ sym q.buffer)
