-- What the operations of a lock do to its cell, by the word that is there.
use Rattle.std.proofs.Common.{◌≡◌, ℕ, zero, suc, ◌+◌, ◌<◌, ◌==◌, true, false, List, length, Some, refl, ap, ◌∙◌, arith}
use Rattle.std.proofs.Common.{nat_lt, slice_set, if◌then◌else◌}
use Rattle.std.proofs.lemmas.Bool.{eq-eqb}
use Rattle.std.proofs.lemmas.Bool.Decides.{nat_tests}
use Rattle.ls_events.specs.declared.kind.Kind.TheVariants.{IllegalMonitorState, Error}
use Rattle.ls_events.specs.declared.action.Action.TheVariants as act
use Rattle.ls_events.specs.declared.action.Answer.{Answer}
use Rattle.ls_events.specs.declared.action.Answer.TheVariants.{Done, Gives, Fails}
use Rattle.ls_events.specs.declared.value.ValueType.{ValueType}
use Rattle.ls_checked.specs.CheckedTree.{Class}
use Rattle.ls_meaning.specs.Store.{Hold, Free, HeldBy, Thing}
use Rattle.ls_code.specs.Locks.{taken_of, left_of}
use Rattle.ls_code.specs.Cells.{Cells, Effect, Answers, effect, cell_at, on_cell, with_words, written, lock_effect}
use Rattle.ls_code.specs.Cells.{unlock_effect, Unfit}
use Rattle.ls_code.specs.declared.lock_word.Taken.{Taken}
use Rattle.ls_code.specs.declared.lock_word.Taken.TheVariants as taken
use Rattle.ls_code.specs.declared.lock_word.Left.{Left}
use Rattle.ls_code.specs.declared.lock_word.Left.TheVariants as left
use Rattle.ls_code.specs.Reading.{full_word, word_of_another}
use Rattle.ls_preservation.proofs.Lists.{get_within}
use Rattle.ls_preservation.proofs.Effects.{IsHold, ThingHas}
use Rattle.ls_preservation.proofs.Cells.{held_word, hold_word}
use Rattle.ls_preservation.proofs.Others.{hold_in, lock_word, hold_has}
use Rattle.ls_preservation.proofs.LockWords.{TakenBy, IsFree, IsOwn, IsFull, IsOthers, taken_by, own_is}

abbrev pub by_taken : Cells → ℕ → Answer ℕ → Effect → Taken → Effect
by_taken c lock won other k = elim k as (λ _. Effect) [
  | taken.Taken next ↦ written c lock 0 next won
  | taken.Other ↦
      other
  | taken.TooMany ↦ Answers c (Fails Error)
]

abbrev pub by_left : Cells → ℕ → Left → Effect
by_left c lock k = elim k as (λ _. Effect) [
  | left.Left next ↦ written c lock 0 next Done
  | left.NotOwner ↦ Answers c
      (Fails IllegalMonitorState)
]

-- what `lock()` does to a cell, by the word that is there
pub lock_is : (c : Cells) (lock t w : ℕ) (k : Taken) (won : Answer ℕ) (other : Effect) →
    cell_at c lock 0 ≡ Some w →
    taken_of w t ≡ k →
    lock_effect c lock t won other ≡ by_taken c lock won other k
lock_is c lock t w k won other ec ek = ap (λ z. on_cell z (λ word. by_taken c lock won other (taken_of word t))) ec ∙
    ap (by_taken c lock won other) ek

-- what `unlock()` does to a cell, by the word that is there
pub unlock_is : (c : Cells) (lock t w : ℕ) (k : Left) →
    cell_at c lock 0 ≡ Some w →
    left_of w t ≡ k →
    unlock_effect c lock t ≡ by_left c lock k
unlock_is c lock t w k ec ek = ap (λ z. on_cell z (λ word. by_left c lock (left_of word t))) ec ∙ ap (by_left c lock) ek

-- a word is stored in the cell of a lock
pub store_is : (c : Cells) (lock next now : ℕ) →
    cell_at c lock 0 ≡ Some now →
    (d : Cells) × ((y : Answer ℕ) → written c lock 0 next y ≡ Answers d y)
store_is c zero next now ec = cc
store_is c (suc p) next now ec =
    let within : p + 0 < length c.words = get_within c.words (p + 0) now ec in
    let e : nat_lt (p + 0) (length c.words) ≡ true = grind (arith, nat_tests) in (
      with_words c (slice_set c.words (p + 0) next),
      λ y. ap (λ b. if b then
          Answers (with_words c (slice_set c.words (p + 0) next)) y else Unfit) e,
    )

-- if the word is as it was seen, the exchange is won
pub won_is : (c d : Cells) (lock t w next : ℕ) →
    cell_at c lock 0 ≡ Some w →
    ((y : Answer ℕ) → written c lock 0 next y ≡ Answers d y) →
    effect c t (act.SwapPair lock w next) ≡ Answers d (Gives 1)
won_is c d lock t w next ec f =
    ap (λ z. on_cell z (λ old. if old == w then written c lock 0 next (Gives 1) else Answers c (Gives 0))) ec
    ∙ ap (λ b. if b then written c lock 0 next (Gives 1) else Answers c (Gives 0)) (eq-eqb w w refl) ∙ f (Gives 1)

-- if the word has changed, the exchange is lost
pub lost_is : (c : Cells) (lock t w next now : ℕ) →
    cell_at c lock 0 ≡ Some now →
    (now == w) ≡ false →
    effect c t (act.SwapPair lock w next) ≡ Answers c (Gives 0)
lost_is c lock t w next now ec b =
    ap (λ z. on_cell z (λ old. if old == w then written c lock 0 next (Gives 1) else Answers c (Gives 0))) ec
    ∙ ap (λ b. if b then written c lock 0 next (Gives 1) else Answers c (Gives 0)) b

-- a word of another thread isn't taken
pub another_is : (t : ℕ) → taken_of (word_of_another t) t ≡ taken.Other
another_is t = by_word (taken_by (word_of_another t) t)
  where
    by_word : TakenBy (word_of_another t) t → taken_of (word_of_another t) t ≡ taken.Other
    by_word (IsFree z x) = absurd (omega arith)
    by_word (IsOwn n o l x) = let h = own_is (word_of_another t) t o in absurd (omega arith)
    by_word (IsFull n o l x) = let h = own_is (word_of_another t) t o in absurd (omega arith)
    by_word (IsOthers n o x) = x

-- the only word with too many holds
full_hold : (h : Hold) (t : ℕ) → IsHold h → taken_of (hold_word h) t ≡ taken.TooMany → hold_word h ≡ full_word t
full_hold Free t h e = cc
full_hold (HeldBy owner holds) t h e = by_word (taken_by (held_word owner holds) t)
  where
    by_word : TakenBy (held_word owner holds) t → held_word owner holds ≡ full_word t
    by_word (IsFree z x) = cc
    by_word (IsOwn n o l x) = cc
    by_word (IsFull n o l x) = let q = own_is (held_word owner holds) t o in omega (arith, h.1)
    by_word (IsOthers n o x) = cc

-- a lock that can't be taken once more has the fullest word
pub full_is : (classes : List Class) (σ : List ValueType) (o : Thing) (s : ValueType) (t : ℕ) →
    ThingHas classes σ o s →
    taken_of (lock_word o) t ≡ taken.TooMany →
    lock_word o ≡ full_word t
full_is classes σ o s t h e = full_hold (hold_in o) t (hold_has classes σ o s h) e
