-- Runs to a call.
use Rattle.std.proofs.Common.{◌≡◌, ◌∙◌, List, [], ◌∷◌, ◌++◌, refl, sym, ap, subst}
use Rattle.ls_events.specs.declared.event.Event.{Event}
use Rattle.ls_endless_calls.specs.Laws.{AmongNeverEnds, NeverEndsIsAmong}
use Rattle.ls_endless_calls.specs.Waits.{ExplainsAlone}

not_empty : (h : List Event) (e : Event) → [] ≡ h ++ e ∷ [] → ⊥
not_empty [] e is = cc
not_empty (x ∷ h) e is = cc

-- two lists with one more at the end
pub same_end : (g h : List Event) (c e : Event) → g ++ c ∷ [] ≡ h ++ e ∷ [] → (g ≡ h) × (c ≡ e)
same_end [] [] c e is = (refl, cc)
same_end [] (y ∷ h) c e is = absurd (not_empty h e (cc))
same_end (x ∷ g) [] c e is = absurd (not_empty g c (cc))
same_end (x ∷ g) (y ∷ h) c e is =
    let r = same_end g h c e (cc) in (cc, r.1)

pub among : AmongNeverEnds
among file program runs h c are one =
    let endless = are one.run one.there in
    let same = same_end endless.before one.to.before endless.call c (sym endless.is ∙ one.to.is) in
    record {
      run = one.run;
      endless = endless;
      call = same.1;
      alone = subst (λ (g : List Event). ExplainsAlone g h) (sym same.0) one.to.alone;
    }

pub all : NeverEndsIsAmong
all file program runs h c tell w = record {
  run = w.run;
  there = tell w.run w.endless;
  to = record {
    before = w.endless.before;
    is = w.endless.is ∙ ap (λ e. w.endless.before ++ e ∷ []) w.call;
    alone = w.alone;
  };
}
