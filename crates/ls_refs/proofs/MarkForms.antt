-- The words of compareAndSet and get, with their temporaries, ask what they ask.
use Rattle.std.proofs.Common.{◌≡◌, ◌≢◌, ℕ, ◌+◌, ◌/◌, ◌%◌, ◌<◌, ◌^◌, List, ap, ◌∙◌, arith}
use Rattle.std.specs.Prelude.{pos, slice_index, slice_set}
use Rattle.std.proofs.lemmas.List.{get_or-set_same, get_or-set_other}
use Rattle.ls_events.specs.declared.action.Action.{Action}
use Rattle.ls_events.specs.declared.action.Action.TheVariants as act
use Rattle.ls_events.specs.declared.value.Value.{Value}
use Rattle.ls_events.specs.declared.value.Value.TheVariants.{Boolean, Reference}
use Rattle.ls_events.specs.declared.value.ValueType.{ValueType}
use Rattle.ls_events.specs.declared.value.ValueType.TheVariants as types
use Rattle.ls_checked.specs.declared.tree.Called.TheVariants.{GetBoth, CompareAndSet}
use Rattle.ls_checked.specs.CheckedTree.{File, Expression, Call, End, More}
use Rattle.ls_meaning.specs.declared.sort.Sort.TheVariants.{ValueOf, PairOf}
use Rattle.ls_meaning.specs.Values.{reference_of, mark_of, pair_of}
use Rattle.ls_meaning.specs.Course.{Answers, Evaluated}
use Rattle.ls_meaning.specs.Expressions.{Calls}
use Rattle.ls_lowered.specs.Words as words
use Rattle.ls_lowered.specs.LoweredTree as trees
use Rattle.ls_lowered.specs.Course as low
use Rattle.ls_lowered.specs.Expressions.{evaluate}
use Rattle.ls_refs.specs.ValueWords.{value_word}
use Rattle.ls_types_judgement.specs.Sorts.{HasType, HasSort}
use Rattle.ls_refs.specs.Temporaries.{temporaries}
use Rattle.ls_refs.specs.Lowered.{lowered}
use Rattle.ls_refs.proofs.Values.{reference_word, packed, half_word, odd_word, pair_has}
use Rattle.ls_refs.proofs.Sim.{Agrees, gets_agrees, then_agrees, flat, ask_agrees, perform_agrees, null_agrees}
use Rattle.ls_refs.proofs.Sim.{null_and, moved, Kept, kept_trans, kept_less, kept_set}
use Rattle.ls_refs.proofs.Good.{holds_kept, Good, one_argument}

-- a temporary, after another one was set and later ones were used
slot_on : (c i j w : ℕ) (old new : List ℕ) →
    i < c →
    i ≢ j →
    Kept c old new →
    slice_index (slice_set new j w) i ≡ slice_index old i
slot_on c i j w old new l ne k = get_or-set_other new j i w 0 (λ e. ne e) ∙ k.at i l

abbrev IsAction : Action ℕ → Action ℕ → Type 0
IsAction a b = a ≡ b

swap_is : (a a' b b' c c' : ℕ) → a ≡ a' → b ≡ b' → c ≡ c' → IsAction (act.SwapPair a b c) (act.SwapPair a' b' c')
swap_is a a' b b' c c' e f g = ap (λ n. act.SwapPair n b c) e ∙ ap (λ n. act.SwapPair a' n c) f ∙
    ap (λ n. act.SwapPair a' b' n) g

item_is : (a a' b b' : ℕ) → a ≡ a' → b ≡ b' → IsAction (act.WriteItem a (pos 0) b) (act.WriteItem a' (pos 0) b')
item_is a a' b b' e f = ap (λ n. act.WriteItem n (pos 0) b) e ∙ ap (λ n. act.WriteItem a' (pos 0) n) f

pair_of_slots : (P : ℕ → ValueType → Type 0) (x m : Value) (c i j : ℕ) →
    i ≡ value_word x →
    j ≡ value_word m →
    HasType P x (types.Class c) →
    HasType P m types.Boolean →
    words.pair_word i j ≡ value_word (pair_of x m)
pair_of_slots P x m c i j e f hx hm = ap (λ n. words.pair_word n j) e ∙ ap (λ n. words.pair_word (value_word x) n) f ∙
    packed P x m c hx hm

module _ (P : ℕ → ValueType → Type 0) (small : (n : ℕ) (t : ValueType) → P n t → n < 2 ^ 32) (file : File)
    (calls : Calls) (calls' : low.Calls) (slots : List ValueType) where
  -- a word that is kept on the operands while a temporary is set
  held : (H : Value → Type 0) (base : ℕ) (old : List ℕ) (x : Answers → Evaluated Value) (a : trees.Expression) (i : ℕ)
      (b : trees.Expression) (k' : ℕ → List ℕ → low.Answers → low.Course (low.Outcome ℕ)) →
      Agrees P H value_word base old x (λ q. low.and_then (evaluate calls' a old q)
      (λ w l r. low.and_then (low.and_then (evaluate calls' b l r)
      (λ y l2 r2. low.Ends (low.Results w) (slice_set l2 i y) r2)) k')) →
      Agrees P H value_word base old x (λ q. low.and_then (evaluate calls' (trees.Hold a i b) old q) k')
  held H base old x a i b k' s = flat P H value_word base old x (λ q. evaluate calls' a old q)
      (λ w l r. low.and_then (evaluate calls' b l r) (λ y l2 r2. low.Ends (low.Results w) (slice_set l2 i y) r2)) k' s

  held_next : (H : Value → Type 0) (base : ℕ) (old : List ℕ) (x : Answers → Evaluated Value) (b : trees.Expression)
      (i w : ℕ) (k' : ℕ → List ℕ → low.Answers → low.Course (low.Outcome ℕ)) →
      Agrees P H value_word base old x (λ q. low.and_then (evaluate calls' b old q)
      (λ y l2 r2. k' w (slice_set l2 i y) r2)) →
      Agrees P H value_word base old x
      (λ q. low.and_then (low.and_then (evaluate calls' b old q)
      (λ y l2 r2. low.Ends (low.Results w) (slice_set l2 i y) r2)) k')
  held_next H base old x b i w k' s = flat P H value_word base old x (λ q. evaluate calls' b old q)
      (λ y l2 r2. low.Ends (low.Results w) (slice_set l2 i y) r2) k' s

  -- `get(array)` asks and ends as its words do
  pub both_agrees : (c : ℕ) (e a : Expression) →
      Good P file calls calls' slots (ValueOf (types.Markable c)) e →
      Good P file calls calls' slots (ValueOf types.BooleanArray) a →
      Good P file calls calls' slots (ValueOf (types.Class c)) (Call e (GetBoth c) (More a End))
  both_agrees c e a ge ga = record {
    good = λ base ls old h le room.
        let te = temporaries e in
        let H = HasSort P (ValueOf (types.Class c)) in
        let a0 = lowered file.classes (base + 2) e in
        let a1 = lowered file.classes (base + 2 + te) a in
        flat P H value_word base old _ (λ q. evaluate calls' (trees.Hold a0 base a1) old q)
        (λ x l q. low.unless_null x l q (low.ask (act.ReadPair x) l q)) _ (held H base old _ a0 base a1 _ (
        then_agrees P _ _ _ _ base (base + 2) base old _ _ _ _ (omega arith) (omega arith)
        (ge.good (base + 2) ls old h (omega arith) (omega arith)) (λ o l1 ho k1.
        let c1 : Kept base old l1 = kept_less base (base + 2) old l1 (omega arith) k1 in
        held_next H base l1 _ a1 base (value_word o) _ (one_argument P file calls calls' H value_word base l1 a End ls _
        _ (
        then_agrees P _ _ _ _ base (base + 2 + te) base l1 _ _ _ _ (omega arith) (omega arith)
        (ga.good (base + 2 + te) ls l1 (holds_kept P slots ls base old l1 le c1 h) (omega arith)
        (omega (arith, c1.long))) (λ r l2 hr k2.
        let m2 = slice_set l2 base (value_word r) in
        let s2 : Kept base l2 m2 = kept_set base base (value_word r) l2 (omega arith) in
        moved P H value_word base l2 m2 _ _ s2 (null_and P H value_word base m2 _ _ _ _ _
        (reference_word P o (types.Markable c) tt ho) (
        then_agrees P _ _ _ _ base (base + 2) base m2 _ _ _ _ (omega arith) (omega arith)
        (ask_agrees P (base + 2) m2 (act.ReadPair (reference_of o)) (PairOf c) (act.ReadPair (value_word o))
        (ap act.ReadPair (reference_word P o (types.Markable c) tt ho))) (λ p l3 hp k3.
        let m3 = slice_set l3 (base + 1) (value_word p) in
        let s3 : Kept base l3 m3 = kept_set base (base + 1) (value_word p) l3 (omega arith) in
        let f0 : slice_index m3 base ≡ value_word r = slot_on (base + 2) base (base + 1) (value_word p) m2 l3
        (omega arith) (λ z. omega arith) k3 ∙ get_or-set_same l2 base (value_word r) 0
        (omega (arith, k2.long, c1.long)) in
        let f1 : slice_index m3 (base + 1) ≡ value_word p = get_or-set_same l3 (base + 1) (value_word p) 0
        (omega (arith, k3.long, s2.long, k2.long, c1.long)) in
        let fr : slice_index m3 base ≡ reference_of r = f0 ∙ reference_word P r types.BooleanArray tt hr in
        moved P H value_word base l3 m3 _ _ s3 (null_and P H value_word base m3 _ _ _ _ _ fr (
        then_agrees P _ _ _ _ base (base + 2) base m3 _ _ _ _ (omega arith) (omega arith)
        (perform_agrees P (base + 2) m3 (act.WriteItem (reference_of r) (pos 0) (Boolean (mark_of p)))
        (act.WriteItem (slice_index m3 base) (pos 0) (slice_index m3 (base + 1) % 2))
        (item_is _ _ _ _ fr (ap (λ n. n % 2) f1 ∙ odd_word P small p c hp))) (λ u l4 hu k4.
        gets_agrees P H value_word base l4 (Reference (reference_of p)) _ (pair_has P p c hp)
        (ap (λ n. n / 2) (k4.at (base + 1) (omega arith) ∙ f1) ∙ half_word P small p c hp)))))))))))));
  }

  -- `compareAndSet` asks and ends as its words do
  pub swap_agrees : (c : ℕ) (e er nr em nm : Expression) →
      Good P file calls calls' slots (ValueOf (types.Markable c)) e →
      Good P file calls calls' slots (ValueOf (types.Class c)) er →
      Good P file calls calls' slots (ValueOf (types.Class c)) nr →
      Good P file calls calls' slots (ValueOf types.Boolean) em →
      Good P file calls calls' slots (ValueOf types.Boolean) nm →
      Good P file calls calls' slots (ValueOf types.Boolean)
      (Call e CompareAndSet (More er (More nr (More em (More nm End)))))
  swap_agrees c e er nr em nm ge g1 g2 g3 g4 = record {
    good = λ base ls old h le room.
        let te = temporaries e in
        let t1 = temporaries er in
        let t2 = temporaries nr in
        let t3 = temporaries em in
        let t4 = temporaries nm in
        let H = HasSort P (ValueOf types.Boolean) in
        let a0 = lowered file.classes (base + 4) e in
        let a1 = lowered file.classes (base + 4 + te) er in
        let a2 = lowered file.classes (base + 4 + te + t1) nr in
        let a3 = lowered file.classes (base + 4 + te + t1 + t2) em in
        let a4 = lowered file.classes (base + 4 + te + t1 + t2 + t3) nm in
        held H base old _ (trees.Hold (trees.Hold (trees.Hold a0 base a1) (base + 1) a2) (base + 2) a3) (base + 3) a4 _
        (held H base old _ (trees.Hold (trees.Hold a0 base a1) (base + 1) a2) (base + 2) a3 _
        (held H base old _ (trees.Hold a0 base a1) (base + 1) a2 _ (held H base old _ a0 base a1 _ (
        then_agrees P _ _ _ _ base (base + 4) base old _ _ _ _ (omega arith) (omega arith)
        (ge.good (base + 4) ls old h (omega arith) (omega arith)) (λ o l1 ho k1.
        let c1 : Kept base old l1 = kept_less base (base + 4) old l1 (omega arith) k1 in
        held_next H base l1 _ a1 base (value_word o) _ (one_argument P file calls calls' H value_word base l1 er
        (More nr (More em (More nm End))) ls _ _ (
        then_agrees P _ _ _ _ base (base + 4 + te) base l1 _ _ _ _ (omega arith) (omega arith)
        (g1.good (base + 4 + te) ls l1 (holds_kept P slots ls base old l1 le c1 h) (omega arith)
        (omega (arith, c1.long))) (λ x l2 hx k2.
        let m2 = slice_set l2 base (value_word x) in
        let s2 : Kept base l2 m2 = kept_set base base (value_word x) l2 (omega arith) in
        let c2 : Kept base old m2 = kept_trans base old l1 m2 c1
        (kept_trans base l1 l2 m2 (kept_less base (base + 4 + te) l1 l2 (omega arith) k2) s2) in
        moved P H value_word base l2 m2 _ _ s2 (held_next H base m2 _ a2 (base + 1) (value_word o) _
        (one_argument P file calls calls' H value_word base m2 nr (More em (More nm End)) ls _ _ (
        then_agrees P _ _ _ _ base (base + 4 + te + t1) base m2 _ _ _ _ (omega arith) (omega arith)
        (g2.good (base + 4 + te + t1) ls m2 (holds_kept P slots ls base old m2 le c2 h) (omega arith)
        (omega (arith, c2.long))) (λ y l3 hy k3.
        let m3 = slice_set l3 (base + 1) (value_word y) in
        let s3 : Kept base l3 m3 = kept_set base (base + 1) (value_word y) l3 (omega arith) in
        let c3 : Kept base old m3 = kept_trans base old m2 m3 c2
        (kept_trans base m2 l3 m3 (kept_less base (base + 4 + te + t1) m2 l3 (omega arith) k3) s3) in
        moved P H value_word base l3 m3 _ _ s3 (held_next H base m3 _ a3 (base + 2) (value_word o) _
        (one_argument P file calls calls' H value_word base m3 em (More nm End) ls _ _ (
        then_agrees P _ _ _ _ base (base + 4 + te + t1 + t2) base m3 _ _ _ _ (omega arith) (omega arith)
        (g3.good (base + 4 + te + t1 + t2) ls m3 (holds_kept P slots ls base old m3 le c3 h) (omega arith)
        (omega (arith, c3.long))) (λ m l4 hm k4.
        let m4 = slice_set l4 (base + 2) (value_word m) in
        let s4 : Kept base l4 m4 = kept_set base (base + 2) (value_word m) l4 (omega arith) in
        let c4 : Kept base old m4 = kept_trans base old m3 m4 c3
        (kept_trans base m3 l4 m4 (kept_less base (base + 4 + te + t1 + t2) m3 l4 (omega arith) k4) s4) in
        moved P H value_word base l4 m4 _ _ s4 (held_next H base m4 _ a4 (base + 3) (value_word o) _
        (one_argument P file calls calls' H value_word base m4 nm End ls _ _ (
        then_agrees P _ _ _ _ base (base + 4 + te + t1 + t2 + t3) base m4 _ _ _ _ (omega arith) (omega arith)
        (g4.good (base + 4 + te + t1 + t2 + t3) ls m4 (holds_kept P slots ls base old m4 le c4 h) (omega arith)
        (omega (arith, c4.long))) (λ n l5 hn k5.
        let m5 = slice_set l5 (base + 3) (value_word n) in
        let s5 : Kept base l5 m5 = kept_set base (base + 3) (value_word n) l5 (omega arith) in
        let f0 : slice_index m5 base ≡ value_word x = slot_on (base + 4) base (base + 3) (value_word n) m4 l5
        (omega arith) (λ z. omega arith) (kept_less (base + 4) _ m4 l5 (omega arith) k5) ∙
        slot_on (base + 4) base (base + 2) (value_word m) m3 l4 (omega arith) (λ z. omega arith)
        (kept_less (base + 4) _ m3 l4 (omega arith) k4) ∙
        slot_on (base + 4) base (base + 1) (value_word y) m2 l3 (omega arith) (λ z. omega arith)
        (kept_less (base + 4) _ m2 l3 (omega arith) k3) ∙
        get_or-set_same l2 base (value_word x) 0 (omega (arith, k2.long, c1.long)) in
        let f1 : slice_index m5 (base + 1) ≡ value_word y = slot_on (base + 4) (base + 1) (base + 3) (value_word n) m4
        l5 (omega arith) (λ z. omega arith) (kept_less (base + 4) _ m4 l5 (omega arith) k5) ∙
        slot_on (base + 4) (base + 1) (base + 2) (value_word m) m3 l4 (omega arith) (λ z. omega arith)
        (kept_less (base + 4) _ m3 l4 (omega arith) k4) ∙
        get_or-set_same l3 (base + 1) (value_word y) 0 (omega (arith, k3.long, c2.long)) in
        let f2 : slice_index m5 (base + 2) ≡ value_word m = slot_on (base + 4) (base + 2) (base + 3) (value_word n) m4
        l5 (omega arith) (λ z. omega arith) (kept_less (base + 4) _ m4 l5 (omega arith) k5) ∙
        get_or-set_same l4 (base + 2) (value_word m) 0 (omega (arith, k4.long, c3.long)) in
        let f3 : slice_index m5 (base + 3) ≡ value_word n = get_or-set_same l5 (base + 3) (value_word n) 0
        (omega (arith, k5.long, c4.long)) in
        moved P H value_word base l5 m5 _ _ s5 (
        null_agrees P H value_word base m5 _ _ _ _ (reference_word P o (types.Markable c) tt ho) (
        ask_agrees P base m5 (act.SwapPair (reference_of o) (pair_of x m) (pair_of y n)) (ValueOf types.Boolean)
        (act.SwapPair (value_word o) (words.pair_word (slice_index m5 base) (slice_index m5 (base + 2)))
        (words.pair_word (slice_index m5 (base + 1)) (slice_index m5 (base + 3))))
        (swap_is _ _ _ _ _ _ (reference_word P o (types.Markable c) tt ho) (pair_of_slots P x m c _ _ f0 f2 hx hm)
        (pair_of_slots P y n c _ _ f1 f3 hy hn))))))))))))))))))))))));
  }
