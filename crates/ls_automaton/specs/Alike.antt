-- Automata that do the same.
use Rattle.std.specs.Prelude.{List}
use Rattle.ls_events.specs.declared.event.Event.{Event}
use Rattle.ls_serial.specs.Serial.{IsCall, IsEndOf}
use Rattle.ls_automaton.specs.Automaton.{IsExplainedFrom}

module _ {S T : Type 0} (Leads : S → Event → Event → S → Type 0) (first : S) (Goes : T → Event → Event → T → Type 0)
    (start : T) (Alike : S → T → Type 0) where
  -- what a call does in a state, it does in each state that is alike
  pub record IsLike : Type 0 where
    pub begins : Alike first start
    pub goes_on : (s : S) (t : T) (c e : Event) (m : S) → Alike s t → IsCall c → IsEndOf c e → Leads s c e m →
        (n : T) × Goes t c e n × Alike m n

  -- then the second explains what the first explains
  abbrev pub AlikeExplain : Type 0
  AlikeExplain = IsLike → (h : List Event) → IsExplainedFrom Leads first h → IsExplainedFrom Goes start h
