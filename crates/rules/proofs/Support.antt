-- What the tests of support say, each once: a reference, a blank vertex, a certificate, and "at least 2f+1 different authors each have a vertex such that ..".
-- Assumes nothing.
use Prim.Native.Nat.{ℕ, pred, ◌+◌, ◌≤◌, ◌<◌}
use mathlib.Core.Path.{◌≡◌, refl, sym, ◌∙◌, subst}
use mathlib.Core.Logic.{◌≢◌}
use mathlib.Core.Bool.{Bool, true}
use mathlib.Core.List.{List}
use native.Mathlib.Omega.{arith}
use lib.Dec.{eqb}
use lib.ListN.{length}
use borrow.Author.Tests.{eqb-true, eqb-false, eq-eqb, ne_eqb, leb-true, le-leb}
use Rattle.folds.specs.Folds.{◌and◌, any_to}
use Rattle.folds.specs.Many.{Many}
use Rattle.folds.proofs.Tests.{and_left, and_right, and_true, not_true, is_not}
use Rattle.folds.proofs.Laws.{any_witness, any_intro}
use Rattle.folds.proofs.Quorum.{many_map, many_test, many_count}
use Rattle.rules.specs.declared.Name.{Name}
use Rattle.rules.specs.declared.Vertex.{Vertex}
use Rattle.rules.specs.Authors.{quorum}
use Rattle.rules.specs.Record.{at, entry, entry_name, find, vertex_of}
use Rattle.rules.specs.Support.{references, supports, blank, certifies, authors_with, direct_commit, direct_skip}
use Rattle.rules.proofs.Names.{name_path}
use Rattle.rules.proofs.Accepted.{Accepted, earlier}

-- ---- a reference

pub record References (v : Vertex) (y : Name) : Type 0 where
  pub one_up : v.round ≡ y.round + 1
  pub marked : y.mark ≢ 0
  pub names : entry v y.author ≡ y.mark

pub references_is : (v : Vertex) (y : Name) → references v y ≡ true → References v y
unfolding references
references_is v y e =
    let rest = and_right _ _ e in
    record {
      one_up = eqb-true _ _ (and_left _ _ e);
      marked = eqb-false _ _ (not_true _ (and_left _ _ rest));
      names = eqb-true _ _ (and_right _ _ rest);
    }

pub is_references : (v : Vertex) (y : Name) → References v y → references v y ≡ true
unfolding references
is_references v y r = and_true _ _ (eq-eqb _ _ r.one_up) (and_true _ _ (is_not (ne_eqb _ _ r.marked)) (eq-eqb _ _ r.names))

-- the entry for its author gives the name
pub references_entry : (v : Vertex) (y : Name) → References v y → entry_name v y.author ≡ y
references_entry v y r = name_path _ _ level refl r.names
  where
    level : pred v.round ≡ y.round
    level = omega (arith, r.one_up)

pub references_filled : (v : Vertex) (y : Name) → References v y → entry v y.author ≢ 0
references_filled v y r z = r.marked (sym r.names ∙ z)

-- in a table that passes, a reference is to an earlier record
pub references_earlier : {n : ℕ} {vs : List Vertex} → Accepted n vs → (q : ℕ) (y : Name) → q < length vs → references (at vs q) y ≡ true → find vs y < q
references_earlier {vs = vs} A q y l e =
    let r = references_is (at vs q) y e in
    subst (λ x. find vs x < q) (references_entry (at vs q) y r) (earlier A q y.author l (references_filled (at vs q) y r))

-- ---- a blank vertex

pub record Blank (w : Vertex) (r leader : ℕ) : Type 0 where
  pub one_up : w.round ≡ r + 1
  pub empty : entry w leader ≡ 0

pub blank_is : (w : Vertex) (r leader : ℕ) → blank w r leader ≡ true → Blank w r leader
unfolding blank
blank_is w r leader e = record { one_up = eqb-true _ _ (and_left _ _ e); empty = eqb-true _ _ (and_right _ _ e) }

pub is_blank : (w : Vertex) (r leader : ℕ) → Blank w r leader → blank w r leader ≡ true
unfolding blank
is_blank w r leader b = and_true _ _ (eq-eqb _ _ b.one_up) (eq-eqb _ _ b.empty)

-- ---- different authors

-- author a has a vertex that passes
abbrev pub Has : List Vertex → (Vertex → Bool) → ℕ → Type 0
Has vs ok a = (p : ℕ) × (p < length vs) × ((at vs p).author ≡ a) × (ok (at vs p) ≡ true)

-- The count is at least q exactly when at least q different authors each have a vertex that passes.
pub authors_many : (n q : ℕ) (vs : List Vertex) (ok : Vertex → Bool) → q ≤ authors_with n vs ok → Many n q (Has vs ok)
unfolding authors_with
authors_many n q vs ok h = many_map n q _ _ (λ a la t. found a (any_witness _ (length vs) t)) (many_test n q _ h)
  where
    found : (a : ℕ) → (p : ℕ) × (p < length vs) × (eqb (at vs p).author a and ok (at vs p) ≡ true) → Has vs ok a
    found a (p, l, t) = (p, l, eqb-true _ _ (and_left _ _ t), and_right _ _ t)

pub many_authors : (n q : ℕ) (vs : List Vertex) (ok : Vertex → Bool) → Many n q (Has vs ok) → q ≤ authors_with n vs ok
unfolding authors_with
many_authors n q vs ok k = many_count n q _ (many_map n q (Has vs ok) _ (λ a la h. told a h) k)
  where
    told : (a : ℕ) → Has vs ok a → any_to (λ p. eqb (at vs p).author a and ok (at vs p)) (length vs) ≡ true
    told a (p, l, e, t) = any_intro _ (length vs) p l (and_true _ _ (eq-eqb _ _ e) t)

-- ---- a certificate

-- entry i of w is a reference to a supporter of b
pub record Backs (vs : List Vertex) (w b : Vertex) (i : ℕ) : Type 0 where
  pub filled : entry w i ≢ 0
  pub supporter : supports (vertex_of vs (entry_name w i)) b ≡ true

pub record Certifies (n : ℕ) (vs : List Vertex) (w b : Vertex) : Type 0 where
  pub two_up : w.round ≡ b.round + 2
  pub backed : Many n (quorum n) (Backs vs w b)

pub certifies_is : (n : ℕ) (vs : List Vertex) (w b : Vertex) → certifies n vs w b ≡ true → Certifies n vs w b
unfolding certifies
certifies_is n vs w b e = record {
  two_up = eqb-true _ _ (and_left _ _ e);
  backed =
      many_map n (quorum n) _ _ (λ i li t. record { filled = eqb-false _ _ (not_true _ (and_left _ _ t)); supporter = and_right _ _ t })
      (many_test n (quorum n) _ (leb-true _ _ (and_right _ _ e)));
}

pub is_certifies : (n : ℕ) (vs : List Vertex) (w b : Vertex) → Certifies n vs w b → certifies n vs w b ≡ true
unfolding certifies
is_certifies n vs w b c =
    let backs = many_map n (quorum n) (Backs vs w b) _ (λ i li k. and_true _ _ (is_not (ne_eqb _ _ k.filled)) k.supporter) c.backed in
    and_true _ _ (eq-eqb _ _ c.two_up) (le-leb _ _ (many_count n (quorum n) _ backs))

-- ---- the direct rules, as statements about authors

pub commit_is : (n : ℕ) (vs : List Vertex) (b : Vertex) → direct_commit n vs b ≡ true → Many n (quorum n) (Has vs (λ w. certifies n vs w b))
unfolding direct_commit
commit_is n vs b e = authors_many n (quorum n) vs _ (leb-true _ _ e)

pub is_commit : (n : ℕ) (vs : List Vertex) (b : Vertex) → Many n (quorum n) (Has vs (λ w. certifies n vs w b)) → direct_commit n vs b ≡ true
unfolding direct_commit
is_commit n vs b k = le-leb _ _ (many_authors n (quorum n) vs _ k)

pub skip_is : (n : ℕ) (vs : List Vertex) (r leader : ℕ) → direct_skip n vs r leader ≡ true → Many n (quorum n) (Has vs (λ w. blank w r leader))
unfolding direct_skip
skip_is n vs r leader e = authors_many n (quorum n) vs _ (leb-true _ _ e)

pub is_skip : (n : ℕ) (vs : List Vertex) (r leader : ℕ) → Many n (quorum n) (Has vs (λ w. blank w r leader)) → direct_skip n vs r leader ≡ true
unfolding direct_skip
is_skip n vs r leader k = le-leb _ _ (many_authors n (quorum n) vs _ k)
