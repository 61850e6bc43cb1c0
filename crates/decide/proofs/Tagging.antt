-- Tags: how a round's bytes are tagged one after the other, how the authors that have a tag are counted, and that the counts are those of
-- the direct rules.
-- Assumes nothing.
use Prim.Native.Nat.{ℕ, zero, suc, ◌+◌, ◌-◌, ◌/◌, ◌%◌, ◌≤◌, ◌<◌, min}
use mathlib.Core.Path.{◌≡◌, refl, sym, ap, ◌∙◌}
use mathlib.Core.Logic.{inr}
use mathlib.Core.Bool.{Bool, true, false}
use mathlib.Core.List.{List}
use native.Mathlib.Numerals.{add-one}
use native.Mathlib.Omega.{arith}
use lib.Dec.{leb, ltb, eqb}
use lib.ListN.{length, get_or, set, take, drop, length-set}
use lib.Seq.{get_or-set_same, get_or-set_other}
use borrow.Author.Tests.{eqb-true, eqb-false, ltb-true, ltb-false, eq-eqb, lt-ltb, le-ltb}
use Rattle.std.specs.List.{count_by}
use Rattle.std.proofs.lemmas.List.{length-drop, get_or-drop}
use Rattle.std.proofs.lemmas.List.Sums.{count_by_more_yes, count_by_more_no}
use Rattle.folds.specs.Folds.{◌and◌, bit, any_to, count_to}
use Rattle.folds.proofs.Tests.{by_test, and_left, and_right, and_true, both_ways}
use Rattle.folds.proofs.Laws.{any_witness, any_intro, any_same, any_count, count_start, count_yes, count_no, count_same}
use Rattle.rules.specs.declared.Vertex.{Vertex}
use Rattle.rules.specs.Authors.{quorum}
use Rattle.rules.specs.Record.{at, entry}
use Rattle.rules.specs.Support.{blank, certifies, authors_with, direct_commit, direct_skip}
use Rattle.rules.proofs.Accepted.{Accepted}
use Rattle.rules.proofs.Support.{blank_is, is_blank, certifies_is}
use Rattle.decide.specs.Range.{start_of}
use Rattle.decide.specs.Certify.{certified_at}
use Rattle.decide.specs.Work.{Window, history_at, tag_at, Retagged, TaggedTo, Tagged, authors_tagged, window_tag}
use Rattle.decide.proofs.Ranges.{start_bound, start_mono, InSlot, in_slot_lem, slot_in, round_in}
use Rattle.decide.proofs.Certified.{certified_test}

-- ---- bytes that are tagged

pub retagged_same : (m : List ℕ) → Retagged m m
retagged_same m = record { same_length = refl; history_kept = λ q. refl }

pub retagged_on : (a b c : List ℕ) → Retagged a b → Retagged b c → Retagged a c
retagged_on a b c p q = record { same_length = q.same_length ∙ p.same_length; history_kept = λ i. q.history_kept i ∙ p.history_kept i }

pub tagged_next : (from : ℕ) (tag : ℕ → ℕ) (old : List ℕ) (q : ℕ) (new : List ℕ) (byte : ℕ) → q < length new → byte / 128 ≡ history_at new q → byte % 128 ≡ tag q
    → TaggedTo from tag old q new → TaggedTo from tag old (q + 1) (set new q byte)
tagged_next from tag old q new byte l h e t = record {
  retagged = retagged_on old new (set new q byte) t.retagged (record {
    same_length = length-set new q byte;
    history_kept = λ j. by_test (eqb j q) (λ b. kept j (eqb-true j q b)) (λ b. ap (λ x. x / 128) (other j (eqb-false j q b)));
  });
  tags = λ j f b. by_test (eqb j q) (λ s. here j (eqb-true j q s))
      (λ s. ap (λ x. x % 128) (other j (eqb-false j q s)) ∙ t.tags j f (omega (arith, eqb-false j q s)));
}
  where
    other : (j : ℕ) → (j ≡ q → ⊥) → get_or (set new q byte) j 0 ≡ get_or new j 0
    other j d = get_or-set_other new q j byte 0 d

    kept : (j : ℕ) → j ≡ q → history_at (set new q byte) j ≡ history_at new j
    kept j s = rw (s, get_or-set_same new q byte 0 l) h

    here : (j : ℕ) → j ≡ q → tag_at (set new q byte) j ≡ tag j
    here j s = rw (s, get_or-set_same new q byte 0 l) e

-- ---- how many bytes from a position on have the tag

abbrev pub tagged_from : List ℕ → (from tag : ℕ) → ℕ → Bool
tagged_from m from tag i = eqb (tag_at m (from + i)) tag

tag_found : (m : List ℕ) (from tag q : ℕ) → from ≤ q → (to : ℕ) → q < to → tag_at m q ≡ tag → any_to (tagged_from m from tag) (to - from) ≡ true
tag_found m from tag q l to h e =
    let place : from + (q - from) ≡ q = omega arith in
    any_intro (tagged_from m from tag) (to - from) (q - from) (omega arith) (rw place (eq-eqb _ _ e))

-- one byte more of those that are counted
counted_more : (m : List ℕ) (from tag k : ℕ) → k < length (drop from m)
    → count_by (λ b. eqb (b % 128) tag) (take k (drop from m)) ≡ count_to (tagged_from m from tag) k
    → count_by (λ b. eqb (b % 128) tag) (take (k + 1) (drop from m)) ≡ count_to (tagged_from m from tag) (k + 1)
counted_more m from tag k l h = by_test (tagged_from m from tag k) yes no
  where
    byte : get_or (drop from m) k 0 ≡ get_or m (from + k) 0
    byte = get_or-drop from m k 0

    yes : tagged_from m from tag k ≡ true → count_by (λ b. eqb (b % 128) tag) (take (k + 1) (drop from m)) ≡ count_to (tagged_from m from tag) (k + 1)
    yes e = count_by_more_yes (λ b. eqb (b % 128) tag) (drop from m) k 0 l (rw byte e) ∙ ap (λ c. c + 1) h ∙ count_yes (tagged_from m from tag) k _ e refl

    no : tagged_from m from tag k ≡ false → count_by (λ b. eqb (b % 128) tag) (take (k + 1) (drop from m)) ≡ count_to (tagged_from m from tag) (k + 1)
    no e = count_by_more_no (λ b. eqb (b % 128) tag) (drop from m) k 0 l (rw byte e) ∙ h ∙ count_no (tagged_from m from tag) k _ e refl

-- a part's bytes counted, as places are
counted_from : (m : List ℕ) (from tag k : ℕ) → from + k ≤ length m → count_by (λ b. eqb (b % 128) tag) (take k (drop from m)) ≡ count_to (tagged_from m from tag) k
counted_from m from tag zero l = sym (count_start (tagged_from m from tag))
counted_from m from tag (suc k) l =
    rw (← add-one k) (counted_more m from tag k (omega (arith, length-drop from m)) (counted_from m from tag k (omega arith)))

-- counted once: whether there is one at all
one_of : (c : ℕ) → min c 1 ≡ bit (ltb 0 c)
one_of c = by_test (ltb 0 c) (λ e. rw e (omega (arith, ltb-true 0 c e))) (λ e. rw e (omega (arith, ltb-false 0 c e)))

-- one author more
pub author_next : (p : ℕ → Bool) (a c once : ℕ) → once ≡ bit (p a) → c ≡ count_to p a → c + once ≡ count_to p (a + 1)
unfolding count_to
author_next p a c once e h = rw (add-one a, e, h)

-- a tag from 1 on for each position from b up to e
window_test : (c p b e : ℕ) → b ≤ p → p < e → eqb (window_tag c b e) (p - b + 1) ≡ eqb c p
window_test c p b e l h = both_ways _ _ there (λ t. let q : c ≡ p = eqb-true c p t in rw (q, le-ltb p b l, lt-ltb p e h) (eq-eqb (p - b + 1) (p - b + 1) refl))
  where
    there : eqb (window_tag c b e) (p - b + 1) ≡ true → eqb c p ≡ true
    there t = by_test (ltb c b) low (λ f. by_test (ltb c e) (within f) (high f))
      where
        low : ltb c b ≡ true → eqb c p ≡ true
        low f = absurd (let z : 0 ≡ p - b + 1 = eqb-true _ _ (rw f at t) in omega arith)

        within : ltb c b ≡ false → ltb c e ≡ true → eqb c p ≡ true
        within f g = let z : c - b + 1 ≡ p - b + 1 = eqb-true _ _ (rw (f, g) at t) in eq-eqb c p (omega (arith, ltb-false c b f))

        high : ltb c b ≡ false → ltb c e ≡ false → eqb c p ≡ true
        high f g = absurd (let z : 0 ≡ p - b + 1 = eqb-true _ _ (rw (f, g) at t) in omega arith)

-- author a has a vertex of round k with the tag
abbrev pub author_tagged : List Vertex → (k tag : ℕ) → List ℕ → ℕ → Bool
author_tagged vs k tag m a = any_to (λ q. (eqb (at vs q).round k and eqb (at vs q).author a) and eqb (tag_at m q) tag) (length vs)

-- ---- in a table that passed

module _ {n : ℕ} {vs : List Vertex} (A : Accepted n vs) where
  -- all bytes of the round are tagged
  pub tagged_end : (k from to : ℕ) (tag : ℕ → ℕ) (old new : List ℕ) → from ≡ start_of vs k 0 → to ≡ start_of vs (k + 1) 0 → TaggedTo from tag old to new
      → Tagged vs k tag old new
  tagged_end k from to tag old new f t s = record {
    retagged = s.retagged;
    tags = λ j h e.
        let i = round_in A k j (record { within = h; round = e }) in
        s.tags j (omega (arith, f, i.from_on)) (omega (arith, t, i.up_to));
  }

  -- its vertices stand side by side
  author_tagged_lem : (k tag a : ℕ) (m : List ℕ) → any_to (tagged_from m (start_of vs k a) tag) (start_of vs k (a + 1) - start_of vs k a) ≡ author_tagged vs k tag m a
  author_tagged_lem k tag a m = both_ways _ _ (λ e. there (any_witness _ _ e)) (λ e. back (any_witness _ _ e))
    where
      s : ℕ
      s = start_of vs k a

      there : (i : ℕ) × (i < start_of vs k (a + 1) - s) × (tagged_from m s tag i ≡ true) → author_tagged vs k tag m a ≡ true
      there (i, l, e) =
          let h = in_slot_lem A k a (s + i) (omega arith) (omega arith) in
          any_intro _ (length vs) (s + i) h.within (and_true _ _ (and_true _ _ (eq-eqb _ _ h.round) (eq-eqb _ _ h.author)) e)

      back : (q : ℕ) × (q < length vs) × ((eqb (at vs q).round k and eqb (at vs q).author a) and eqb (tag_at m q) tag ≡ true)
          → any_to (tagged_from m s tag) (start_of vs k (a + 1) - s) ≡ true
      back (q, l, e) =
          let i =
          slot_in A k a q
          (record { within = l; round = eqb-true _ _ (and_left _ _ (and_left _ _ e)); author = eqb-true _ _ (and_right _ _ (and_left _ _ e)) }) in
          tag_found m s tag q i.from_on (start_of vs k (a + 1)) i.up_to (eqb-true _ _ (and_right _ _ e))

  -- and the bytes of its part, counted once
  pub author_once : (k tag a : ℕ) (m : List ℕ) (from to c : ℕ) → length vs ≤ length m → from ≡ start_of vs k a → to ≡ start_of vs k (a + 1)
      → c ≡ count_by (λ b. eqb (b % 128) tag) (take (to - from) (drop from m))
      → min c 1 ≡ bit (author_tagged vs k tag m a)
  author_once k tag a m from to c room f t e =
      let rise = start_mono A k a k (a + 1) (inr (refl, omega arith)) in
      let part = counted_from m from tag (to - from) (omega (arith, f, t, rise, room, start_bound A k (a + 1))) in
      rw (e, part, f, t) (one_of _ ∙ ap bit (sym (any_count _ _) ∙ author_tagged_lem k tag a m))

  -- ---- the counts of the direct rules

  -- the tag tells of the vertices of round k whether they pass a test that no other vertex passes
  authors_tagged_are : (k tag : ℕ) (m : List ℕ) (pass : Vertex → Bool) → ((q : ℕ) → q < length vs → (at vs q).round ≡ k → eqb (tag_at m q) tag ≡ pass (at vs q))
      → ((v : Vertex) → pass v ≡ true → v.round ≡ k) → authors_tagged n vs k tag m ≡ authors_with n vs pass
  unfolding authors_tagged authors_with
  authors_tagged_are k tag m pass told round =
      count_same _ _ n (λ a l. any_same _ _ (length vs) (λ q h. both_ways _ _ (λ e. there a q h e) (λ e. back a q h e)))
    where
      there : (a q : ℕ) → q < length vs → (eqb (at vs q).round k and eqb (at vs q).author a) and eqb (tag_at m q) tag ≡ true
          → eqb (at vs q).author a and pass (at vs q) ≡ true
      there a q h e =
          let r : (at vs q).round ≡ k = eqb-true _ _ (and_left _ _ (and_left _ _ e)) in
          and_true _ _ (and_right _ _ (and_left _ _ e)) (sym (told q h r) ∙ and_right _ _ e)

      back : (a q : ℕ) → q < length vs → eqb (at vs q).author a and pass (at vs q) ≡ true
          → (eqb (at vs q).round k and eqb (at vs q).author a) and eqb (tag_at m q) tag ≡ true
      back a q h e =
          let r : (at vs q).round ≡ k = round (at vs q) (and_right _ _ e) in
          and_true _ _ (and_true _ _ (eq-eqb _ _ r) (and_left _ _ e)) (told q h r ∙ and_right _ _ e)

  -- tag 1 on those that are blank
  pub skip_tagged : (r leader : ℕ) (old m : List ℕ) → Tagged vs (r + 1) (λ q. bit (eqb (entry (at vs q) leader) 0)) old m
      → leb (quorum n) (authors_tagged n vs (r + 1) 1 m) ≡ direct_skip n vs r leader
  unfolding direct_skip
  skip_tagged r leader old m T = ap (leb (quorum n)) (authors_tagged_are (r + 1) 1 m (λ w. blank w r leader) told (λ v e. (blank_is v r leader e).one_up))
    where
      one : (b : Bool) → eqb (bit b) 1 ≡ b
      one true = refl
      one false = refl

      told : (q : ℕ) → q < length vs → (at vs q).round ≡ r + 1 → eqb (tag_at m q) 1 ≡ blank (at vs q) r leader
      told q l e =
          rw (T.tags q l e) (one (eqb (entry (at vs q) leader) 0)
          ∙ both_ways _ _ (λ h. is_blank _ r leader (record { one_up = e; empty = eqb-true _ _ h })) (λ h. eq-eqb _ _ (blank_is _ r leader h).empty))

  -- tag p - b + 1 on those that certify the vertex at p
  commit_tagged : (r leader b e p : ℕ) (m : List ℕ)
      → ((w : ℕ) → w < length vs → (at vs w).round ≡ r + 2 → tag_at m w ≡ window_tag (certified_at n vs r leader w) b e)
      → b ≤ p → p < e → InSlot vs r leader p → leb (quorum n) (authors_tagged n vs (r + 2) (p - b + 1) m) ≡ direct_commit n vs (at vs p)
  unfolding direct_commit
  commit_tagged r leader b e p m T l h s =
      ap (leb (quorum n)) (authors_tagged_are (r + 2) (p - b + 1) m (λ w. certifies n vs w (at vs p)) told
      (λ v c. (certifies_is n vs v (at vs p) c).two_up ∙ ap (λ x. x + 2) s.round))
    where
      told : (w : ℕ) → w < length vs → (at vs w).round ≡ r + 2 → eqb (tag_at m w) (p - b + 1) ≡ certifies n vs (at vs w) (at vs p)
      told w lw q =
          rw (T w lw q) (window_test (certified_at n vs r leader w) p b e l h)
          ∙ certified_test A w leader lw r q p s.within s.round s.author

  -- so of each vertex of the window
  pub window_commit : {r leader b e : ℕ} {m : List ℕ} → Window n vs r leader b e m → (p : ℕ) → b ≤ p → p < e
      → leb (quorum n) (authors_tagged n vs (r + 2) (p - b + 1) m) ≡ direct_commit n vs (at vs p)
  window_commit {r} {leader} {b} {e} {m} W p l h =
      commit_tagged r leader b e p m W.tags l h (in_slot_lem A r leader p (omega (arith, W.from_on)) (omega (arith, W.up_to)))
