-- The written order has nothing missing and nothing twice, and no other order has what is asked of it: of any setting whose step goes to an
-- earlier record and whose indirect search starts after the slot.
-- Assumes nothing.
use Prim.Native.Nat.{ℕ, zero, suc, ◌+◌, ◌≤◌, ◌<◌}
use mathlib.Core.Path.{◌≡◌, refl, sym, ap, ◌∙◌, subst}
use mathlib.Core.Logic.{◌⊎◌, inl, inr, ⊎_elim, ◌↔◌}
use mathlib.Core.Bool.{Bool, true, false, not}
use mathlib.Core.List.Memᴰ
use mathlib.Core.List.{List, [], ◌∷◌, ◌++◌, Memᴰ}
use native.Mathlib.Omega.{arith}
use native.Mathlib.Nat.{le_refl, zero-add, le_of_suc-le-suc, not-suc-le-zero, eq-or-lt_of_le}
use lib.Dec.{ltb}
use lib.ListN.{length, get_or}
use borrow.Author.Tests.{ltb-true, ltb-false}
use Rattle.folds.specs.Folds.{◌and◌, filter_to, member}
use Rattle.folds.proofs.Tests.{by_test, not_both, and_left, and_right, and_true, not_true, is_not, compare}
use Rattle.folds.proofs.Lists.{filter_sound, filter_complete, member_sound, member_complete}
use Rattle.rules.specs.declared.Vertex.{Vertex}
use Rattle.rules.specs.Record.{first, at, name_of}
use Rattle.rules.specs.Decision.{Decision, undecided, skipped, committed, Decided}
use Rattle.rules.specs.Support.{references}
use Rattle.rules.specs.History.{StepRule, history}
use Rattle.rules.specs.Decide.{Setting, box_setting, decisions, decision_at}
use Rattle.rules.specs.Order.{not_yet, write_from, order, first_undecided}
use Rattle.rules.specs.Written.{InHistory, DecidedUpTo, WrittenLeader, InShare, Written, OrderHas, Demand2Order}
use Rattle.rules.proofs.Accepted.{Accepted, accepted, position_unique}
use Rattle.rules.proofs.Support.{references_earlier}
use Rattle.rules.proofs.History.{Downward, follows, reached_at, history_length, history_sound, history_complete, history_is}
use Rattle.rules.proofs.Decisions.{skipped_apart, committed_decided, skipped_decided, committed_same}
use Rattle.rules.proofs.Decide.{leads}
use Rattle.rules.proofs.Slots.{one_leader_lem}
use Rattle.rules.proofs.Highest.{highest_most, first_undecided_low}
use Rattle.rules.proofs.Places.{place_in, in_place, Placed, Ordered, ordered_append, filter_ordered, ordered_same}

-- ---- shares

module _ (step : StepRule) (vs : List Vertex) (ds : List (Decision ℕ)) where
  abbrev Share : ℕ → ℕ → Type 0
  Share s p = InShare step vs ds s p

  -- a position is of one share
  share_low : (s t p : ℕ) → Share s p → Share t p → s ≤ t
  share_low s t p h k = by_test (ltb t s) (λ e. absurd (h.not_before t k.leader (ltb-true _ _ e) k.leads k.inside)) (λ e. ltb-false _ _ e)

  share_one : (s t p : ℕ) → Share s p → Share t p → s ≡ t
  share_one s t p h k = omega (arith, share_low s t p h k, share_low t s p k h)

  -- p is to stand before q: its share comes first, and in one share the table decides
  record Earlier (p q : ℕ) : Type 0 where
    turn : ℕ
    other_turn : ℕ
    share : Share turn p
    other_share : Share other_turn q
    in_turn : turn ≤ other_turn
    in_table : turn ≡ other_turn → p < q

  -- so it is, whichever shares they are told to be of
  earlier_turn : (p q : ℕ) → Earlier p q → (s t : ℕ) → Share s p → Share t q → s ≤ t
  earlier_turn p q a s t x y = omega (arith, share_one s a.turn p x a.share, a.in_turn, share_one a.other_turn t q a.other_share y)

  earlier_table : (p q : ℕ) → Earlier p q → (s : ℕ) → Share s p → Share s q → p < q
  earlier_table p q a s x y = a.in_table (share_one a.turn s p a.share x ∙ share_one s a.other_turn q y a.other_share)

  one_way : (p q : ℕ) → Earlier p q → Earlier q p → ⊥
  one_way p q a b =
      let one : b.turn ≡ b.other_turn = omega (arith, b.in_turn, earlier_turn p q a b.other_turn b.turn b.other_share b.share) in
      omega (arith, b.in_table one, earlier_table p q a b.turn (subst (λ t. Share t p) (sym one) b.other_share) b.share)

  -- ---- one order only

  written_ordered : (o : List ℕ) → Written step vs ds o → Ordered Earlier o
  written_ordered o w i j h l =
      let a = w.nothing_else i (omega arith) in
      let b = w.nothing_else j l in
      record {
        turn = a.0;
        other_turn = b.0;
        share = a.1;
        other_share = b.1;
        in_turn = w.leaders_in_turn i j a.0 b.0 h l a.1 b.1;
        in_table = λ e. w.table_order i j a.0 h l a.1 (subst (λ s. Share s (get_or o j 0)) (sym e) b.1);
      }

  written_in : (o o' : List ℕ) → Written step vs ds o → Written step vs ds o' → (z : ℕ) → Memᴰ z o → Memᴰ z o'
  written_in o o' w w' z m = at_place (in_place o z m)
    where
      at_place : Placed z o → Memᴰ z o'
      at_place (i, l, e) =
          let r = (w.nothing_else i l).1 in
          let j = w'.nothing_missing _ r.leader (get_or o i 0) r.leads r.inside in
          Memᴰ.cast (sym (j.2 ∙ e)) (place_in o' j.0 j.1)

  -- two orders that have what is to be written are equal
  pub written_one : (o o' : List ℕ) → Written step vs ds o → Written step vs ds o' → o ≡ o'
  written_one o o' w w' =
      ordered_same Earlier one_way o o' (written_ordered o w) (written_ordered o' w') (written_in o o' w w') (written_in o' o w' w)

  -- ---- what is written when k slots have been gone through

  module _ {n : ℕ} (A : Accepted n vs) (down : Downward step vs) (held : (s a : ℕ) → decision_at ds s ≡ committed a → a < length vs) where
    -- the computed history of the vertex at a, and what it means
    abbrev Listed : ℕ → ℕ → Type 0
    Listed a p = (p < length (history step vs a)) × (get_or (history step vs a) p false ≡ true)

    listed_in : (a p : ℕ) → a < length vs → Listed a p → InHistory step vs a p
    listed_in a p l (lp, e) =
        let low : p ≤ a = omega (arith, history_length A down (follows A step) a l) in
        record { stands = omega arith; reached = history_sound A down (follows A step) a p l low e }

    in_listed : (a p : ℕ) → a < length vs → InHistory step vs a p → Listed a p
    in_listed a p l h = at_place (reached_at A down (follows A step) a l _ h.reached)
      where
        at_place : (q : ℕ) × (q ≤ a) × (name_of (at vs q) ≡ name_of (at vs p)) → Listed a p
        at_place (q, lq, e) =
            let same : q ≡ p = position_unique A q p (omega arith) h.stands e in
            let low : p ≤ a = omega (arith, same) in
            (omega (arith, history_length A down (follows A step) a l), history_complete A down (follows A step) a p l low h.reached)

    -- p is of the share of a slot below k
    abbrev Shared : ℕ → ℕ → Type 0
    Shared k p = (s : ℕ) × (s < k) × Share s p

    record SoFar (k : ℕ) (done : List ℕ) : Type 0 where
      decided : (u : ℕ) → u < k → Decided (decision_at ds u)
      sound : (p : ℕ) → Memᴰ p done → Shared k p
      complete : (s a p : ℕ) → s < k → WrittenLeader ds s a → InHistory step vs a p → Memᴰ p done
      ordered : Ordered Earlier done

    none_yet : SoFar 0 []
    none_yet = record {
      decided = λ u l. absurd (not-suc-le-zero l);
      sound = λ p m. absurd (Memᴰ.not-nil m);
      complete = λ s a p l w h. absurd (not-suc-le-zero l);
      ordered = λ i j h l. absurd (not-suc-le-zero l);
    }

    -- what holds below k and of k itself holds below k + 1
    one_more : (P : ℕ → Type 0) (k : ℕ) → ((s : ℕ) → s < k → P s) → P k → (s : ℕ) → s < suc k → P s
    one_more P k f d s l = ⊎_elim (λ (e : s ≡ k). subst P (sym e) d) (f s) (eq-or-lt_of_le (le_of_suc-le-suc l))

    shared_later : (k p : ℕ) → Shared k p → Shared (suc k) p
    shared_later k p (s, l, h) = (s, omega arith, h)

    -- a skipped slot writes nothing
    after_skipped : (k : ℕ) (done : List ℕ) → SoFar k done → decision_at ds k ≡ skipped → SoFar (suc k) done
    after_skipped k done t e = record {
      decided = one_more (λ u. Decided (decision_at ds u)) k t.decided (skipped_decided e);
      sound = λ p m. shared_later k p (t.sound p m);
      complete = λ s a p l w h. one_more (λ u. WrittenLeader ds u a → Memᴰ p done) k (λ u lu wu. t.complete u a p lu wu h) nobody s l w;
      ordered = t.ordered;
    }
      where
        nobody : {B : Type 0} {a : ℕ} → WrittenLeader ds k a → B
        nobody w = absurd (skipped_apart w.commits e)

    -- a committed one writes its share
    after_committed : (k a : ℕ) (done : List ℕ) → SoFar k done → decision_at ds k ≡ committed a → SoFar (suc k) (done ++ not_yet done (history step vs a))
    unfolding not_yet
    after_committed k a done t e = record {
      decided = one_more (λ u. Decided (decision_at ds u)) k t.decided (committed_decided e);
      sound = λ p m. ⊎_elim (λ h. shared_later k p (t.sound p h)) (λ h. (k, omega arith, new_share p h)) (Memᴰ.append_cases done m);
      complete = λ s b p l w h. one_more (λ u. WrittenLeader ds u b → Memᴰ p (done ++ new)) k (λ u lu wu. old u b p lu wu h) (λ wk. own b p wk h) s l w;
      ordered = ordered_append Earlier done new t.ordered new_ordered across;
    }
      where
        H : List Bool
        H = history step vs a

        new : List ℕ
        new = filter_to (λ p. get_or H p false and not (member p done)) (length H)

        leads_here : WrittenLeader ds k a
        leads_here = record { commits = e; before = λ u l. t.decided u (omega arith) }

        -- what is new is of this slot's share
        new_share : (p : ℕ) → Memᴰ p new → Share k p
        new_share p m =
            let f = filter_sound _ (length H) p m in
            record {
              leader = a;
              leads = leads_here;
              inside = listed_in a p (held k a e) (f.0, and_left _ _ f.1);
              not_before = λ s b l w h. not_both (member_complete p done (t.complete s b p l w h)) (not_true _ (and_right _ _ f.1));
            }

        old : (s b p : ℕ) → s < k → WrittenLeader ds s b → InHistory step vs b p → Memᴰ p (done ++ new)
        old s b p l w h = Memᴰ.append_left _ (t.complete s b p l w h)

        own : (b p : ℕ) → WrittenLeader ds k b → InHistory step vs b p → Memᴰ p (done ++ new)
        own b p w h =
            let i = in_listed a p (held k a e) (subst (λ c. InHistory step vs c p) (committed_same w.commits e) h) in
            by_test
            (member p done)
            (λ f. Memᴰ.append_left _ (member_sound p done f))
            (λ f. Memᴰ.append_right done (filter_complete _ (length H) p i.0 (and_true _ _ i.1 (is_not f))))

        new_ordered : Ordered Earlier new
        new_ordered i j h l = record {
          turn = k;
          other_turn = k;
          share = new_share _ (place_in new i (omega arith));
          other_share = new_share _ (place_in new j l);
          in_turn = le_refl k;
          in_table = λ e. filter_ordered _ (length H) i j h l;
        }

        across : (x y : ℕ) → Memᴰ x done → Memᴰ y new → Earlier x y
        across x y mx my =
            let r = t.sound x mx in
            record {
              turn = r.0;
              other_turn = k;
              share = r.2;
              other_share = new_share y my;
              in_turn = omega (arith, r.1);
              in_table = λ e. absurd (omega (arith, r.1));
            }

    -- ---- the whole order

    -- before a slot that is undecided all is written
    stopped : (k : ℕ) (done : List ℕ) → SoFar k done → decision_at ds k ≡ undecided → Written step vs ds done
    stopped k done t e = record {
      nothing_twice = λ i j li lj q. one_place i j li lj q (compare i j);
      nothing_missing = λ s a p w h. in_place done p (t.complete s a p (gone_through s a w (compare s k)) w h);
      nothing_else = λ i l. let r = t.sound _ (place_in done i l) in (r.0, r.2);
      leaders_in_turn = λ i j s u h l. earlier_turn _ _ (t.ordered i j h l) s u;
      table_order = λ i j s h l. earlier_table _ _ (t.ordered i j h l) s;
    }
      where
        apart : (i j : ℕ) → i < j → j < length done → get_or done i 0 ≡ get_or done j 0 → ⊥
        apart i j h l q = let e = subst (λ p. Earlier p (get_or done j 0)) q (t.ordered i j h l) in one_way _ _ e e

        one_place : (i j : ℕ) → i < length done → j < length done → get_or done i 0 ≡ get_or done j 0 → (i < j) ⊎ ((i ≡ j) ⊎ (j < i)) → i ≡ j
        one_place i j li lj q (inl h) = absurd (apart i j h lj q)
        one_place i j li lj q (inr (inl h)) = h
        one_place i j li lj q (inr (inr h)) = absurd (apart j i h li (sym q))

        gone_through : (s a : ℕ) → WrittenLeader ds s a → (s < k) ⊎ ((s ≡ k) ⊎ (k < s)) → s < k
        gone_through s a w (inl h) = h
        gone_through s a w (inr (inl q)) = absurd (committed_decided w.commits (ap (decision_at ds) q ∙ e))
        gone_through s a w (inr (inr h)) = absurd (w.before k h e)

    -- `es` are the decisions from slot k on
    abbrev From : ℕ → List (Decision ℕ) → Type 0
    From k es = (u : ℕ) → decision_at ds (k + u) ≡ decision_at es u

    this : (k : ℕ) (d : Decision ℕ) → decision_at ds (k + 0) ≡ d → decision_at ds k ≡ d
    this k d f = let e : k ≡ k + 0 = omega arith in ap (decision_at ds) e ∙ f

    rest : (k : ℕ) (d : Decision ℕ) (es : List (Decision ℕ)) → From k (d ∷ es) → From (suc k) es
    rest k d es f u = let e : suc k + u ≡ k + suc u = omega arith in ap (decision_at ds) e ∙ f (suc u)

    written_from : (es : List (Decision ℕ)) (k : ℕ) (done : List ℕ) → From k es → SoFar k done
        → Written step vs ds (write_from step vs done es)
    unfolding write_from
    written_from [] k done f t = stopped k done t (this k _ (f 0))
    written_from (undecided ∷ es) k done f t = stopped k done t (this k _ (f 0))
    written_from (skipped ∷ es) k done f t = written_from es (suc k) done (rest k _ es f) (after_skipped k done t (this k _ (f 0)))
    written_from (committed a ∷ es) k done f t = written_from es (suc k) _ (rest k _ es f) (after_committed k a done t (this k _ (f 0)))

-- ---- the order of a setting

pub order_written : (C : Setting) (later : (s : ℕ) → s < C.slots.start s) {n : ℕ} {vs : List Vertex} → Accepted n vs → Downward C.step vs
    → Written C.step vs (decisions C n vs) (order C n vs)
unfolding order
order_written C later {n} {vs} A down =
    let ds = decisions C n vs in
    let held : (s a : ℕ) → decision_at ds s ≡ committed a → a < length vs = λ s a e. (leads C later A s a e).0 in
    written_from C.step vs ds A down held ds 0 [] (λ u. ap (decision_at ds) (zero-add u)) (none_yet C.step vs ds A down held)

-- ---- the first undecided one

-- where the first of the list is decided, it is to be looked for in the rest
decided_first : (r : ℕ) (d : Decision ℕ) (ds : List (Decision ℕ)) → Decided d → ((s : ℕ) → (suc r + s < first_undecided (suc r) ds) ↔ DecidedUpTo ds s)
    → (s : ℕ) → (r + s < first_undecided (suc r) ds) ↔ DecidedUpTo (d ∷ ds) s
decided_first r d ds h rest zero = (λ _. only, λ _. omega (arith, first_undecided_low (suc r) ds))
  where
    only : DecidedUpTo (d ∷ ds) 0
    only zero l = h
    only (suc u) l = absurd (not-suc-le-zero l)
decided_first r d ds h rest (suc s) =
    (λ k. more ((rest s).0 (omega arith)), λ f. let k = (rest s).1 (λ u l. f (suc u) (omega arith)) in omega arith)
  where
    more : DecidedUpTo ds s → DecidedUpTo (d ∷ ds) (suc s)
    more f zero l = h
    more f (suc u) l = f u (le_of_suc-le-suc l)

pub first_undecided_is : (r : ℕ) (ds : List (Decision ℕ)) (s : ℕ) → (r + s < first_undecided r ds) ↔ DecidedUpTo ds s
unfolding first_undecided
first_undecided_is r [] s = (λ k. absurd (omega arith), λ f. absurd (f 0 (omega arith) refl))
first_undecided_is r (undecided ∷ ds) s = (λ k. absurd (omega arith), λ f. absurd (f 0 (omega arith) refl))
first_undecided_is r (skipped ∷ ds) s = decided_first r skipped ds (skipped_decided refl) (λ u. first_undecided_is (suc r) ds u) s
first_undecided_is r (committed a ∷ ds) s = decided_first r (committed a) ds (committed_decided refl) (λ u. first_undecided_is (suc r) ds u) s

-- ---- document 01

pub order_has : {n : ℕ} {vs : List Vertex} → Accepted n vs → OrderHas n vs
order_has {n} {vs} A = record {
  written = all;
  no_other = λ o w. written_one _ _ _ o _ w all;
  the_first_undecided = first_undecided_is 1 (decisions (box_setting n) n vs);
  histories = history_is A;
  highest_most = highest_most A;
}
  where
    all : Written references vs (decisions (box_setting n) n vs) (order (box_setting n) n vs)
    all = order_written (box_setting n) (one_leader_lem n).later A (references_earlier A)

pub demand_2_order : Demand2Order
demand_2_order n t e = order_has (accepted first n t e)
