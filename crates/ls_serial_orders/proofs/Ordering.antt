-- Orders that explain histories, and their beginnings.
use Rattle.std.proofs.Common.{◌≡◌, ◌↔◌, ◌∙◌, ◌+◌, ◌++◌, ◌<◌, ◌≤◌, ℕ, false, List, [], ◌∷◌, Some, Contains, length}
use Rattle.std.proofs.Common.{slice_get, take, drop, refl, sym, ap, subst, arith}
use Rattle.std.proofs.lemmas.List.{take-append-drop, take-take}
use Rattle.ls_events.specs.declared.event.Event.{Event}
use Rattle.ls_events.specs.Beginnings.{IsBeginning}
use Rattle.ls_checked.specs.CheckedTree.{File}
use Rattle.ls_checked.specs.CheckedProgram.{Program}
use Rattle.ls_meaning.specs.Runs.{source_history}
use Rattle.ls_serial.specs.Serial.{Explains, IsSerial}
use Rattle.ls_linearizable.specs.Linearizable.{IsLinearizable}
use Rattle.ls_linearizable.proofs.Linearizing.{first_linearizable}
use Rattle.ls_serial_search.specs.Told.{usual}
use Rattle.ls_automaton.specs.Automaton.{IsExplainedFrom}
use Rattle.ls_automaton.specs.Laws.{RunsAreOnce}
use Rattle.ls_automaton.specs.Programs.{IsExplainedWithin}
use Rattle.ls_automaton.specs.Tables.{Goes}
use Rattle.ls_automaton.specs.declared.table.Table.{Table}
use Rattle.ls_automaton.proofs.Numbers.{explained_within, is_explained, numbers_once, runs_are}
use Rattle.ls_automaton.proofs.Runs.{serially_serial}
use Rattle.ls_report.specs.Events.{Text}
use Rattle.ls_serial_orders.specs.Calls.{calls_of}
use Rattle.ls_serial_orders.specs.Known.{IsTableOf}
use Rattle.ls_serial_orders.specs.Orders.{IsHopeless, IsOrderOf}
use Rattle.ls_serial_orders.specs.Placing.{ExplainsBy}

-- a beginning begins each longer one
less_begins : (h : List Event) (m n : ℕ) → m ≤ n → IsBeginning (take m h) (take n h)
less_begins h m n le =
    (drop m (take n h), ap (λ t. t ++ drop m (take n h)) (sym (take-take m n h le)) ∙ take-append-drop m (take n h))

module _ (file : File) (program : Program) where
  -- the calls of a run along the table that explains a history are an order of it
  pub ordered : (t : Table) (run h : List Event) (order : List Text) →
      IsTableOf file program t →
      ExplainsBy t.rows.items h run →
      order ≡ calls_of program run →
      IsOrderOf file program h order
  ordered t run h order table e is =
      let s = runs_are file program usual.steps t.goes_on t.rows.items table.are run e.last e.serially in
      record {
        schedule = s.0;
        serial = subst IsSerial (sym s.1) (serially_serial (Goes t.rows.items) 0 e.last run e.serially);
        explains = subst (λ x. Explains x h) (sym s.1) e.explains;
        calls = is ∙ ap (calls_of program) (sym s.1);
      }

  -- what no run along the table explains isn't linearizable, if no call goes on
  pub none_explains : (t : Table) (h : List Event) →
      IsTableOf file program t →
      (RunsAreOnce (Goes t.rows.items) 0 → IsExplainedFrom (Goes t.rows.items) 0 h → ⊥) →
      t.goes_on ≡ false →
      IsLinearizable file program h →
      ⊥
  none_explains t h table none known l =
      none (numbers_once file program usual.steps t.goes_on t.rows.items table.are)
      (is_explained file program usual.steps t.goes_on t.rows.items table.are known h l)

  -- and no serial run explains it, each call of which ends within the bound
  pub none_within : (t : Table) (h : List Event) →
      IsTableOf file program t →
      (RunsAreOnce (Goes t.rows.items) 0 → IsExplainedFrom (Goes t.rows.items) 0 h → ⊥) →
      IsExplainedWithin file program usual.steps h →
      ⊥
  none_within t h table none e =
      none (numbers_once file program usual.steps t.goes_on t.rows.items table.are)
      (explained_within file program usual.steps t.goes_on t.rows.items table.are h e)

  of_order : (h : List Event) (order : List Text) → IsOrderOf file program h order → IsLinearizable file program h
  of_order h order o = record { schedule = o.schedule; serial = o.serial; explains = o.explains }

  -- a history has an order exactly if it is linearizable
  pub order_exactly : (h : List Event) → IsLinearizable file program h ↔
      ((order : List Text) × IsOrderOf file program h order)
  order_exactly h = (
    λ l. (
      calls_of program (source_history file program l.schedule),
      record {
        schedule = l.schedule;
        serial = l.serial;
        explains = l.explains;
        calls = refl;
      },
    ),
    λ o. of_order h o.0 o.1,
  )

  -- the empty history has the empty order
  pub empty_order : IsOrderOf file program [] []
  empty_order = record {
    schedule = [];
    serial = tt;
    explains = record {
      ended = λ e there ends. absurd (none e there);
      called = λ c there is. there;
      order = λ c i j is at there. absurd (nothing c i at);
    };
    calls = refl;
  }
    where
      none : (e : Event) → Contains [] e → ⊥
      none e there = omega (arith, there.1)

      nothing : (c : Event) (i : ℕ) → slice_get [] i ≡ Some c → ⊥
      nothing c i at = cc

  -- a history that isn't linearizable isn't empty
  pub some_events : (h : List Event) → (IsLinearizable file program h → ⊥) → 0 < length h
  some_events [] none = absurd (none (of_order [] [] empty_order))
  some_events (e ∷ h) none = omega arith

  -- the place from which on no beginning is linearizable
  pub hopeless_at : (h : List Event) (at more : ℕ) (order : List Text) →
      at < more →
      more ≤ length h →
      more ≤ at + 1 →
      IsOrderOf file program (take at h) order →
      (IsLinearizable file program (take more h) → ⊥) →
      IsHopeless file program h at
  hopeless_at h at more order lt le next before after = record {
    within = omega arith;
    before = λ count low. first_linearizable file program (take count h) (take at h) (less_begins h count at low)
        (of_order (take at h) order before);
    with_it = λ count high l. after (first_linearizable file program (take more h) (take count h)
        (less_begins h more count (omega arith)) l);
  }
