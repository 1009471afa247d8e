-- The event with which a history ceases to be linearizable is a return or a trap.
use Rattle.std.proofs.Common.{◌≡◌, ◌⊎◌, inl, inr, ℕ, ◌+◌, ◌<◌, Bool, true, false, List, [], ◌∷◌, ◌++◌, Some, Contains}
use Rattle.std.proofs.Common.{arith, length, slice_get, take, refl, sym, ap, ◌∙◌, subst}
use Rattle.std.proofs.lemmas.List.{take_more}
use Rattle.std.proofs.lemmas.Option.{get_or_from_slice_get, slice_get_within}
use Rattle.ls_automaton.proofs.Lists.{get_first, get_last, get_of_first, in_both, in_first, take_first}
use Rattle.ls_checked.specs.CheckedProgram.{Program}
use Rattle.ls_checked.specs.CheckedTree.{File}
use Rattle.ls_events.specs.declared.event.Event.{Event}
use Rattle.ls_linearizable.proofs.There.{there_cases, there_not}
use Rattle.ls_linearizable.specs.Linearizable.{IsLinearizable}
use Rattle.ls_linearizable.specs.Once.{AreOnce}
use Rattle.ls_meaning.specs.Runs.{source_history}
use Rattle.ls_serial.proofs.Lists.{contains_get, get_contains, get_within, take_get}
use Rattle.ls_serial.specs.Serial.{AreEnded, IsCall, IsEnd, is_called}
use Rattle.ls_serial_orders.specs.Orders.{IsHopeless}

-- what stands once stands once among the first
pub once_first : (h : List Event) (n : ℕ) → AreOnce h → AreOnce (take n h)
once_first h n once e i j at there = once e i j (take_get n h i e at).1 (take_get n h j e there).1

no_end : (e : Event) → IsCall e → IsEnd e → ⊥
no_end e call end = up_down (sym call ∙ end)
  where
    up_down : true ≡ false → ⊥
    up_down p = cc

module _ (file : File) (program : Program) where
  -- with a call that wasn't there a linearizable history stays so
  with_call : (h : List Event) (c : Event) → AreOnce (h ++ c ∷ []) → IsCall c → IsLinearizable file program h →
      IsLinearizable file program (h ++ c ∷ [])
  with_call h c once call l = record {
    schedule = l.schedule;
    serial = l.serial;
    explains = record {
      ended = λ e there ends. by_end e ends (in_both h (c ∷ []) e there);
      called = λ d there is. in_first h (c ∷ []) d (l.explains.called d there is);
      order = λ d i j is at there. by_place d i j is at there (get_last h c i d at);
    };
  }
    where
      g : List Event
      g = source_history file program l.schedule

      not_last : (e : Event) → IsEnd e → (c ≡ e) ⊎ Contains [] e → ⊥
      not_last e ends (inl same) = no_end e (subst IsCall same call) ends
      not_last e ends (inr there) = there_not e there

      by_end : (e : Event) → IsEnd e → Contains h e ⊎ Contains (c ∷ []) e → Contains g e
      by_end e ends (inl there) = l.explains.ended e there ends
      by_end e ends (inr there) = absurd (not_last e ends (there_cases c e [] there))

      twice : (d : Event) (i j : ℕ) → IsCall d → i ≡ length h → slice_get (h ++ c ∷ []) i ≡ Some d →
          slice_get g j ≡ Some d → ⊥
      twice d i j is last at there =
          let first = contains_get h d (l.explains.called d (get_contains g j d there) is) in
          let same = once d first.0 i (get_of_first h (c ∷ []) first.0 d first.1) at in
          omega (arith, get_within h first.0 d first.1, same, last)

      by_place : (d : Event) (i j : ℕ) → IsCall d → slice_get (h ++ c ∷ []) i ≡ Some d → slice_get g j ≡ Some d →
          (i < length h) ⊎ ((i ≡ length h) × (c ≡ d)) → AreEnded (take i (h ++ c ∷ [])) (take j g)
      by_place d i j is at there (inl lt) =
          subst (λ t. AreEnded t (take j g)) (sym (take_first h (c ∷ []) i (omega (arith, lt))))
          (l.explains.order d i j is (get_first h (c ∷ []) i d lt at) there)
      by_place d i j is at there (inr last) = absurd (twice d i j is last.0 at there)

  pub hopeless_ends : (h : List Event) (at : ℕ) (e : Event) → AreOnce h → IsHopeless file program h at →
      slice_get h at ≡ Some e → IsEnd e
  hopeless_ends h at e once is there = by_kind (is_called e.happening) refl
    where
      more : take (at + 1) h ≡ take at h ++ e ∷ []
      more = take_more h at e (slice_get_within h at e there)
          ∙ ap (λ x. take at h ++ x ∷ []) (get_or_from_slice_get h at e e there)

      by_kind : (b : Bool) → is_called e.happening ≡ b → is_called e.happening ≡ false
      by_kind false p = p
      by_kind true p =
          let linear = with_call (take at h) e (subst AreOnce more (once_first h (at + 1) once)) p
          (is.before at (omega arith)) in
          absurd (is.with_it (at + 1) (omega arith) (subst (IsLinearizable file program) (sym more) linear))
