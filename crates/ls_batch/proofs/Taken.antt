-- One entry more, and entries in order.
use Rattle.std.proofs.Common.{◌≡◌, ◌∙◌, ℕ, ◌+◌, ◌<◌, ◌≤◌, zero, suc, Bool, true, false, true≢false, cond, List, [], ◌∷◌}
use Rattle.std.proofs.Common.{◌++◌, length, get_or, Option, Some, None, Ordering, Less, refl, sym, ap, arith, inl}
use Rattle.std.proofs.Common.{inr}
use Rattle.std.specs.Prelude.{slice_get, All}
use Rattle.std.specs.Cmp.{nat_cmp_is}
use Rattle.std.specs.Ordering.{is_lt, nat_cmp, ordering_then}
use Rattle.std.proofs.lemmas.Bool.{cases_lt}
use Rattle.std.proofs.lemmas.List.Elements.{All-cons, All-head, All-nil, All-tail}
use Rattle.std.proofs.lemmas.List.Sums.{sum_by-append}
use Rattle.ls_batch.specs.declared.counting.Count.{Count}
use Rattle.ls_batch.specs.Numbers.{Key, plain_key}
use Rattle.ls_batch.specs.declared.tally.Entry.{Entry}
use Rattle.ls_batch.specs.Counted.{are_same}
use Rattle.ls_batch.proofs.Both.{count_of}
use Rattle.ls_batch.proofs.Exact.{same_keys}
use Rattle.ls_batch.proofs.Tallied.{Ascends, none_some, one_time, Says, some_is, there, times}

-- what is left of the counts as they were: entries say what was counted, and each history has an entry or is left
pub record AreTaken (all rest : Key → Option Count) (es : List Entry) : Type 0 where
  pub says : All (Says all) es
  pub each : (ks : Key) → times ks es + there (rest ks) ≡ there (all ks)
  pub within : (ks : Key) (c : Count) → rest ks ≡ Some c → all ks ≡ Some c

pub none_taken : (all : Key → Option Count) → AreTaken all all []
none_taken all = record { says = All-nil (Says all); each = λ ks. omega arith; within = λ ks c e. e }

all_snoc : (P : Entry → Type 0) (es : List Entry) (e : Entry) → All P es → P e → All P (es ++ e ∷ [])
all_snoc P [] e all last = All-cons P e [] last (All-nil P)
all_snoc P (x ∷ es) e all last = All-cons P x (es ++ e ∷ []) (All-head P x es all)
    (all_snoc P es e (All-tail P x es all) last)

-- one entry more is taken
pub one_taken : (all rest next : Key → Option Count) (es : List Entry) (e : Entry) →
    AreTaken all rest es →
    rest (plain_key e.key) ≡ count_of e.count e.seed
    → ((ks : Key) → next ks ≡ cond (are_same ks (plain_key e.key)) None (rest ks)) → AreTaken all next (es ++ e ∷ [])
one_taken all rest next es e t its others = record {
  says = all_snoc (Says all) es e t.says (t.within (plain_key e.key) _ its);
  each = λ ks. each ks (are_same ks (plain_key e.key)) refl;
  within = λ ks c h. within ks c (are_same ks (plain_key e.key)) (sym (others ks) ∙ h);
}
  where
    each : (ks : Key) (b : Bool) →
        are_same ks (plain_key e.key) ≡ b →
        times ks (es ++ e ∷ []) + there (next ks) ≡ there (all ks)
    each ks true p =
        let sum = sum_by-append (one_time ks) es (e ∷ []) in
        let one : one_time ks e ≡ 1 = ap (λ b. cond b 1 0) p in
        let left : there (rest ks) ≡ 1 = ap (λ k. there (rest k)) (same_keys ks (plain_key e.key) p) ∙ ap there its in
        let gone : there (next ks) ≡ 0 = ap there (others ks ∙ ap (λ b. cond b None (rest ks)) p) in
        let before = t.each ks in
        omega (arith, sum, one, left, gone, before)
    each ks false p =
        let sum = sum_by-append (one_time ks) es (e ∷ []) in
        let one : one_time ks e ≡ 0 = ap (λ b. cond b 1 0) p in
        let left : there (next ks) ≡ there (rest ks) = ap there (others ks ∙ ap (λ b. cond b None (rest ks)) p) in
        let before = t.each ks in
        omega (arith, sum, one, left, before)

    within : (ks : Key) (c : Count) (b : Bool) → cond b None (rest ks) ≡ Some c → all ks ≡ Some c
    within ks c true h = none_some h
    within ks c false h = t.within ks c h

-- all are taken
pub all_taken : (all rest : Key → Option Count) (es : List Entry) → AreTaken all rest es → ((ks : Key) → rest ks ≡ None)
    → (ks : Key) → times ks es ≡ there (all ks)
all_taken all rest es t none ks =
    let left = ap there (none ks) in
    let before = t.each ks in
    omega (arith, left, before)

-- ---- entries in order

got : (es : List Entry) (j : ℕ) (e d : Entry) → slice_get es j ≡ Some e → (j < length es) × (get_or es j d ≡ e)
got [] j e d h = none_some h
got (x ∷ es) zero e d h = (omega arith, some_is h)
got (x ∷ es) (suc j) e d h = let ih = got es j e d h in let lt = ih.0 in (omega arith, ih.1)

put : (es : List Entry) (j : ℕ) (d : Entry) → j < length es → slice_get es j ≡ Some (get_or es j d)
put [] j d lt = absurd (omega arith)
put (x ∷ es) zero d lt = refl
put (x ∷ es) (suc j) d lt = put es j d (omega arith)

pub not_less : (m n : ℕ) (o : Ordering) → is_lt (ordering_then (nat_cmp m n) o) ≡ false → n ≤ m
not_less m n o h = elim (cases_lt m n) [
  | inl less ↦ absurd (true≢false (ap (λ x. is_lt (ordering_then x o)) (nat_cmp_is m n Less less) ∙ h))
  | inr le ↦ le
]

plus_one : (k : ℕ) → k + 1 ≡ suc k
plus_one k = omega arith

abbrev pub AreSteps : List Entry → Type 0
AreSteps es = (k : ℕ) (d : Entry) → k + 1 < length es → (get_or es k d).seed ≤ (get_or es (k + 1) d).seed

pub ascends : (es : List Entry) → AreSteps es → Ascends es
ascends es steps j zero e f lt a b = absurd (omega arith)
ascends es steps j (suc k) e f lt a b = elim (cases_lt j k) [
  | inl less ↦
      let last = got es (k + 1) f e (ap (slice_get es) (plus_one k) ∙ b) in
      let in_list = last.0 in
      let low = ascends es steps j k e (get_or es k e) less a (put es k e (omega arith)) in
      let step = steps k e (omega arith) in
      let at_end = ap (λ (x : Entry). x.seed) last.1 in
      omega (arith, low, step, at_end)
  | inr past ↦
      let last = got es (k + 1) f e (ap (slice_get es) (plus_one k) ∙ b) in
      let in_list = last.0 in
      let here : j ≡ k = omega (arith, lt, past) in
      let first = got es j e e a in
      let step = steps k e (omega arith) in
      let at_start : (get_or es k e).seed ≡ e.seed = ap (λ (n : ℕ). (get_or es n e).seed) (sym here) ∙
      ap (λ (x : Entry). x.seed) first.1 in
      let at_end = ap (λ (x : Entry). x.seed) last.1 in
      omega (arith, step, at_start, at_end)
]
