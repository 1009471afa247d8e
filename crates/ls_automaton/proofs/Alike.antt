-- Automata that do the same explain the same.
use Rattle.std.proofs.Common.{List, [], ◌∷◌, refl, subst}
use Rattle.ls_events.specs.declared.event.Event.{Event}
use Rattle.ls_automaton.specs.Automaton.{Serially}
use Rattle.ls_automaton.specs.Alike.{AlikeExplain, IsLike}

module _ {S T : Type 0} (Leads : S → Event → Event → S → Type 0) (first : S) (Goes : T → Event → Event → T → Type 0)
    (start : T) (Alike : S → T → Type 0) (like : IsLike Leads first Goes start Alike) where
  -- a run of the second, which comes to a state that is alike
  pub record ComesTo (t : T) (g : List Event) (end : S) : Type 0 where
    pub last : T
    pub serially : Serially Goes t g last
    pub alike : Alike end last

  pub comes_to : (g : List Event) (s last : S) (t : T) → Alike s t → Serially Leads s g last → ComesTo t g last
  comes_to [] s last t a k = record { last = t; serially = refl; alike = subst (λ z. Alike z t) k a }
  comes_to (c ∷ []) s last t a k = absurd k
  comes_to (c ∷ e ∷ g) s last t a k =
      let n = like.goes_on s t c e k.2 a k.0 k.1 k.3 in
      let r = comes_to g k.2 last n.0 n.2 k.4 in
      record { last = r.last; serially = (k.0, k.1, n.0, n.1, r.serially); alike = r.alike }

-- a serial run of the first is one of the second
pub alike_runs : {S T : Type 0} (Leads : S → Event → Event → S → Type 0) (first : S)
    (Goes : T → Event → Event → T → Type 0) (start : T) (Alike : S → T → Type 0) →
    IsLike Leads first Goes start Alike → (g : List Event) (last : S) → Serially Leads first g last →
    (end : T) × Serially Goes start g end
alike_runs Leads first Goes start Alike like g last k =
    let r = comes_to Leads first Goes start Alike like g first last start like.begins k in (r.last, r.serially)

pub alike_explain : {S T : Type 0} (Leads : S → Event → Event → S → Type 0) (first : S)
    (Goes : T → Event → Event → T → Type 0) (start : T) (Alike : S → T → Type 0) →
    AlikeExplain Leads first Goes start Alike
alike_explain Leads first Goes start Alike like h e =
    let r = comes_to Leads first Goes start Alike like e.run first e.last start like.begins e.serially in
    record { run = e.run; last = r.last; serially = r.serially; explains = e.explains }
