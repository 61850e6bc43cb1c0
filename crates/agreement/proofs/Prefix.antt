-- Of the written orders of two tables in one world, one is a beginning of the other, where the slots that both decide are decided alike.
-- A committed leader writes the same names in both: its history is its own, and names rise in both tables.
-- Assumes nothing.
use Prim.Native.Nat.{ℕ, suc, ◌≤◌, ◌<◌}
use mathlib.Core.Path.{◌≡◌, refl, sym, ap, ap₂, ◌∙◌, subst}
use mathlib.Core.Logic.{◌⊎◌, inl, inr, ⊎_elim}
use mathlib.Core.Bool.{Bool, true, false, not}
use mathlib.Core.List.Memᴰ
use mathlib.Core.List.{List, [], ◌∷◌, ◌++◌, map-append, append-nil, append_assoc, Memᴰ}
use native.Mathlib.Omega.{arith}
use lib.ListN.{length, get_or}
use Rattle.folds.specs.Folds.{◌and◌, filter_to, member}
use Rattle.folds.proofs.Tests.{not_both, failed, and_left, and_right, and_true, not_true, is_not}
use Rattle.folds.proofs.Lists.{filter_sound, filter_complete, member_sound, member_complete}
use Rattle.folds.proofs.Rising.{Rising, rising_same, filter_rising}
use Rattle.rules.specs.declared.Name.{Name}
use Rattle.rules.specs.declared.Vertex.{Vertex}
use Rattle.rules.specs.Record.{at, name_of}
use Rattle.rules.specs.Decision.{Decision, undecided, skipped, committed, Decided, tell}
use Rattle.rules.specs.History.{StepRule, history}
use Rattle.rules.specs.Decide.{decision_at}
use Rattle.rules.specs.Order.{not_yet, write_from, names_at}
use Rattle.rules.proofs.Names.{Below, below_irrefl, below_trans}
use Rattle.rules.proofs.Accepted.{rising, position_unique}
use Rattle.rules.proofs.History.{reached_at, history_length, history_sound, history_complete}
use Rattle.rules.proofs.Decisions.{skipped_apart, committed_decided, skipped_decided, committed_same}
use Rattle.agreement.specs.Agreement.{Begins}
use Rattle.agreement.proofs.World.{World, Reached}
use Rattle.agreement.proofs.Table.{TableIn, follows}

-- ---- what is written stays in front

write_more : (step : StepRule) (vs : List Vertex) (ds : List (Decision ℕ)) (done : List ℕ) → (rest : List ℕ) × (write_from step vs done ds ≡ done ++ rest)
unfolding write_from
write_more step vs [] done = ([], sym (append-nil done))
write_more step vs (undecided ∷ ds) done = ([], sym (append-nil done))
write_more step vs (skipped ∷ ds) done = write_more step vs ds done
write_more step vs (committed a ∷ ds) done =
    let new = not_yet done (history step vs a) in
    let r = write_more step vs ds (done ++ new) in
    (new ++ r.0, r.1 ∙ append_assoc done new r.0)

-- what the one has written begins what the other goes on to write
begins : (step : StepRule) (us ws : List Vertex) (d e : List ℕ) (es : List (Decision ℕ)) → names_at us d ≡ names_at ws e
    → Begins (names_at us d) (names_at ws (write_from step ws e es))
begins step us ws d e es same =
    let r = write_more step ws es e in
    (names_at ws r.0, ap (λ l. l ++ names_at ws r.0) same ∙ sym (map-append _ e r.0) ∙ ap (names_at ws) (sym r.1))

-- ---- what one committed leader writes

-- positions of the table
abbrev Within : List Vertex → List ℕ → Type 0
Within vs ps = (p : ℕ) → Memᴰ p ps → p < length vs

module _ {n : ℕ} {step : StepRule} {W : World n step} where
  new_within : {vs : List Vertex} (T : TableIn W vs) (a : ℕ) → a < length vs → (d : List ℕ) → Within vs (not_yet d (history step vs a))
  unfolding not_yet
  new_within {vs} T a l d p m =
      let f = filter_sound _ (length (history step vs a)) p m in omega (arith, f.0, history_length T.accepted T.down (follows T) a l)

  new_rising : {vs : List Vertex} (T : TableIn W vs) (a : ℕ) → a < length vs → (d : List ℕ) → Rising Below (names_at vs (not_yet d (history step vs a)))
  unfolding not_yet
  new_rising {vs} T a l d =
      filter_rising Below (λ p. name_of (at vs p)) _ (length (history step vs a))
      (λ i j h k. rising T.accepted i j h (omega (arith, history_length T.accepted T.down (follows T) a l)))

  -- a name that is new in the one table is new in the other
  new_carried : {us ws : List Vertex} (T : TableIn W us) (U : TableIn W ws) (a b : ℕ) → a < length us → b < length ws → name_of (at us a) ≡ name_of (at ws b)
      → (d e : List ℕ) → Within us d → names_at us d ≡ names_at ws e → (z : Name) → Memᴰ z (names_at us (not_yet d (history step us a)))
      → Memᴰ z (names_at ws (not_yet e (history step ws b)))
  unfolding not_yet
  new_carried {us} {ws} T U a b la lb lead d e wd same z m = carried (Memᴰ.of_map _ (not_yet d (history step us a)) m)
    where
      H : List Bool
      H = history step ws b

      new : ℕ → Bool
      new q = get_or H q false and not (member q e)

      -- a position of ws that is written has its name written in us
      back : (p q : ℕ) → p < length us → name_of (at us p) ≡ name_of (at ws q) → Memᴰ q e → Memᴰ p d
      back p q lp is mq = at_place (Memᴰ.of_map _ d (subst (Memᴰ (name_of (at ws q))) (sym same) (Memᴰ.map _ mq)))
        where
          at_place : (k : ℕ) × Memᴰ k d × (name_of (at us k) ≡ name_of (at ws q)) → Memᴰ p d
          at_place (k, mk, ek) = Memᴰ.cast (position_unique T.accepted p k lp (wd k mk) (is ∙ sym ek)) mk

      there : (p : ℕ) → p < length us → name_of (at us p) ≡ z → member p d ≡ false → (q : ℕ) × (q ≤ b) × (name_of (at ws q) ≡ z) → Reached W (name_of (at ws b)) z
          → Memᴰ z (names_at ws (filter_to new (length H)))
      there p lp ep out (q, lq, eq) r =
          let inside : get_or H q false ≡ true =
          history_complete U.accepted U.down (follows U) b q lb lq (subst (Reached W (name_of (at ws b))) (sym eq) r) in
          let unwritten : not (member q e) ≡ true =
          is_not (failed _ (λ t. not_both (member_complete p d (back p q lp (ep ∙ sym eq) (member_sound q e t))) out)) in
          let low : q < length H = omega (arith, history_length U.accepted U.down (follows U) b lb) in
          Memᴰ.cast (sym eq) (Memᴰ.map _ (filter_complete new (length H) q low (and_true _ _ inside unwritten)))

      carried : (p : ℕ) × Memᴰ p (filter_to (λ p. get_or (history step us a) p false and not (member p d)) (length (history step us a)))
          × (name_of (at us p) ≡ z)
          → Memᴰ z (names_at ws (filter_to new (length H)))
      carried (p, mp, ep) =
          let f = filter_sound _ (length (history step us a)) p mp in
          let lp : p ≤ a = omega (arith, f.0, history_length T.accepted T.down (follows T) a la) in
          let r = history_sound T.accepted T.down (follows T) a p la lp (and_left _ _ f.1) in
          let r' : Reached W (name_of (at ws b)) z = subst (λ x. Reached W x z) lead (subst (Reached W (name_of (at us a))) ep r) in
          there p (omega arith) ep (not_true _ (and_right _ _ f.1)) (reached_at U.accepted U.down (follows U) b lb z r') r'

  module _ {us ws : List Vertex} (T : TableIn W us) (U : TableIn W ws) where
    new_same : (a b : ℕ) → a < length us → b < length ws → name_of (at us a) ≡ name_of (at ws b) → (d e : List ℕ) → Within us d → Within ws e
        → names_at us d ≡ names_at ws e
        → names_at us (not_yet d (history step us a)) ≡ names_at ws (not_yet e (history step ws b))
    new_same a b la lb lead d e wd we same =
        rising_same Below below_irrefl below_trans _ _ (new_rising T a la d) (new_rising U b lb e)
        (new_carried T U a b la lb lead d e wd same) (new_carried U T b a lb la (sym lead) e d we (sym same))

    -- ---- the whole orders

    -- committed vertices stand in the table
    abbrev pub Leads : List Vertex → List (Decision ℕ) → Type 0
    Leads vs ds = (t p : ℕ) → decision_at ds t ≡ committed p → p < length vs

    abbrev pub Alike : List (Decision ℕ) → List (Decision ℕ) → Type 0
    Alike ds es =
        (t : ℕ) → Decided (decision_at ds t) → Decided (decision_at es t)
        → tell (λ p. name_of (at us p)) (decision_at ds t) ≡ tell (λ p. name_of (at ws p)) (decision_at es t)

    -- a slot that the first decides and the second does not
    abbrev pub Ahead : List (Decision ℕ) → List (Decision ℕ) → Type 0
    Ahead ds es = (t : ℕ) × Decided (decision_at ds t) × (decision_at es t ≡ undecided)

    ahead_next : (x y : Decision ℕ) (ds es : List (Decision ℕ)) {A B : Type 0} → A ⊎ (B × Ahead ds es) → A ⊎ (B × Ahead (x ∷ ds) (y ∷ es))
    ahead_next x y ds es (inl h) = inl h
    ahead_next x y ds es (inr (h, (t, k, l))) = inr (h, (suc t, k, l))

    grow : (vs : List Vertex) (d f : List ℕ) → Within vs d → Within vs f → Within vs (d ++ f)
    grow vs d f v w p m = ⊎_elim (v p) (w p) (Memᴰ.append_cases d m)

    -- The first order begins the second; or the second begins the first, and then the first decides a slot that the second does not.
    pub orders : (ds es : List (Decision ℕ)) (d e : List ℕ) → Leads us ds → Leads ws es → Alike ds es → Within us d → Within ws e → names_at us d ≡ names_at ws e
        → Begins (names_at us (write_from step us d ds)) (names_at ws (write_from step ws e es))
        ⊎ (Begins (names_at ws (write_from step ws e es)) (names_at us (write_from step us d ds)) × Ahead ds es)
    unfolding write_from tell
    orders [] es d e lu lw al wd we same = inl (begins step us ws d e es same)
    orders (undecided ∷ ds) es d e lu lw al wd we same = inl (begins step us ws d e es same)
    orders (skipped ∷ ds) [] d e lu lw al wd we same = inr (begins step ws us e d ds (sym same), (0, skipped_decided refl, refl))
    orders (skipped ∷ ds) (undecided ∷ es) d e lu lw al wd we same = inr (begins step ws us e d ds (sym same), (0, skipped_decided refl, refl))
    orders (skipped ∷ ds) (skipped ∷ es) d e lu lw al wd we same =
        ahead_next skipped skipped ds es (orders ds es d e (λ t. lu (suc t)) (λ t. lw (suc t)) (λ t. al (suc t)) wd we same)
    orders (skipped ∷ ds) (committed b ∷ es) d e lu lw al wd we same = absurd (skipped_apart refl (sym (al 0 (skipped_decided refl) (committed_decided refl))))
    orders (committed a ∷ ds) [] d e lu lw al wd we same = inr (begins step ws us e d (committed a ∷ ds) (sym same), (0, committed_decided refl, refl))
    orders (committed a ∷ ds) (undecided ∷ es) d e lu lw al wd we same =
        inr (begins step ws us e d (committed a ∷ ds) (sym same), (0, committed_decided refl, refl))
    orders (committed a ∷ ds) (skipped ∷ es) d e lu lw al wd we same = absurd (skipped_apart refl (al 0 (committed_decided refl) (skipped_decided refl)))
    orders (committed a ∷ ds) (committed b ∷ es) d e lu lw al wd we same =
        let la = lu 0 a refl in
        let lb = lw 0 b refl in
        let f = not_yet d (history step us a) in
        let g = not_yet e (history step ws b) in
        let lead = committed_same refl (al 0 (committed_decided refl) (committed_decided refl)) in
        let more : names_at us f ≡ names_at ws g = new_same a b la lb lead d e wd we same in
        ahead_next (committed a) (committed b) ds es
        (orders ds es (d ++ f) (e ++ g) (λ t. lu (suc t)) (λ t. lw (suc t)) (λ t. al (suc t))
        (grow us d f wd (new_within T a la d)) (grow ws e g we (new_within U b lb e)) (map-append _ d f ∙ ap₂ ◌++◌ same more ∙ sym (map-append _ e g)))
