-- If a run along the table explains a history, one is found.
use Rattle.std.proofs.Common.{◌≡◌, ◌⊎◌, inl, inr, ℕ, ◌+◌, ◌<◌, ◌≤◌, List, [], ◌∷◌, ◌++◌, Some, Contains, length}
use Rattle.std.proofs.Common.{length-append, slice_get, take, refl, sym, ap, ◌∙◌, subst, arith, append-nil}
use Rattle.std.specs.declared.vec.Vec.{Vec}
use Rattle.std.specs.declared.alloc.Global.{Global}
use Rattle.ls_events.specs.declared.event.Event.{Event}
use Rattle.ls_serial.specs.Serial.{AreEnded, IsCall, IsEnd, IsEndOf}
use Rattle.ls_serial.proofs.Steps.{not_both}
use Rattle.ls_serial_search.specs.Following.{called}
use Rattle.ls_linearizable.proofs.There.{there_cases, there_first, there_later, there_not}
use Rattle.ls_automaton.specs.declared.outcome.Outcome.{Outcome}
use Rattle.ls_automaton.specs.Automaton.{IsExplainedFrom, Serially}
use Rattle.ls_automaton.specs.Held.{row_of}
use Rattle.ls_automaton.specs.Laws.{RunsAreOnce}
use Rattle.ls_automaton.specs.Tables.{Goes}
use Rattle.ls_automaton.proofs.Holding.{serially_more}
use Rattle.ls_automaton.proofs.Lists.{append_assoc, at_last, get_of_first, in_both, in_first, in_second, take_all}
use Rattle.ls_automaton.proofs.Lists.{take_first}
use Rattle.ls_automaton.proofs.Numbers.{call_of_end}
use Rattle.ls_automaton.proofs.Runs.{one_end, serially_serial}
use Rattle.ls_serial_orders.specs.declared.placing.Placed.{Placed}
use Rattle.ls_serial_orders.specs.Placing.{HasLike, IsFirstLayer, IsNext, MayCome, NoneFinished, row_after}
use Rattle.ls_serial_orders.proofs.Fewer.{few_calls}

module _ (rows : List (Vec Outcome Global)) (h : List Event) (runs : RunsAreOnce (Goes rows) 0)
    (e : IsExplainedFrom (Goes rows) 0 h) where
  -- So many calls of the run are placed in some order, and what they leave is the same.
  pub record IsAhead (layer : List Placed) (count : ℕ) : Type 0 where
    pub front : List Event
    pub back : List Event
    pub is : front ++ back ≡ e.run
    pub placed : Placed
    pub there : Contains layer placed
    pub done : Serially (Goes rows) 0 front placed.state
    pub rest : Serially (Goes rows) placed.state back e.last
    pub ends : (x : Event) → Contains front x → IsEnd x → Contains placed.ends.items x
    pub many : length front ≡ count + count

  pub first_ahead : (layer : List Placed) → IsFirstLayer layer → IsAhead layer 0
  first_ahead layer f = record {
    front = [];
    back = e.run;
    is = refl;
    placed = f.placed;
    there = subst (λ l. Contains l f.placed) (sym f.is) (there_first f.placed []);
    done = sym f.state;
    rest = subst (λ n. Serially (Goes rows) n e.run e.last) (sym f.state) e.serially;
    ends = λ x there end. absurd (there_not x there);
    many = refl;
  }

  module _ (layer : List Placed) (count : ℕ) (a : IsAhead layer count) where
    in_all : (x : Event) → Contains a.front x → Contains e.run x
    in_all x there = subst (λ l. Contains l x) a.is (in_first a.front a.back x there)

    -- where all of the run is placed, it has finished
    finished : a.back ≡ [] → AreEnded h a.placed.ends.items
    finished none x there end =
        a.ends x (subst (λ l. Contains l x) (sym a.is ∙ ap (λ l. a.front ++ l) none ∙ append-nil a.front)
        (e.explains.ended x there end)) end

    -- the next call of the run
    module _ (c f : Event) (back : List Event) (next : a.back ≡ c ∷ f ∷ back) where
      step : Serially (Goes rows) a.placed.state (c ∷ f ∷ back) e.last
      step = subst (λ l. Serially (Goes rows) a.placed.state l e.last) next a.rest

      whole : a.front ++ c ∷ f ∷ back ≡ e.run
      whole = ap (λ l. a.front ++ l) (sym next) ∙ a.is

      call_is : c ≡ called f.thread f.call
      call_is = call_of_end c f step.0 step.1

      abbrev outcome : Outcome
      outcome = record { end = f; after = step.2 }

      in_row : Contains (row_after rows a.placed) outcome
      in_row = subst (λ r. Contains (row_of r) (record { end = f; after = step.2 })) (sym step.3.at) step.3.there

      call_there : Contains e.run c
      call_there = subst (λ l. Contains l c) whole (in_second a.front (c ∷ f ∷ back) c (there_first c (f ∷ back)))

      end_there : Contains e.run f
      end_there = subst (λ l. Contains l f) whole
          (in_second a.front (c ∷ f ∷ back) f (there_later c f (f ∷ back) (there_first f back)))

      due : (i : ℕ) → slice_get h i ≡ Some c → AreEnded (take i h) a.placed.ends.items
      due i at x there end =
          a.ends x (subst (λ l. Contains l x) before
          (e.explains.order c i (length a.front) step.0 at placed_at x there end)) end
        where
          before : take (length a.front) e.run ≡ a.front
          before = ap (take (length a.front)) (sym whole)
              ∙ take_first a.front (c ∷ f ∷ back) (length a.front) (omega arith)
              ∙ take_all a.front

          placed_at : slice_get e.run (length a.front) ≡ Some c
          placed_at = subst (λ l. slice_get l (length a.front) ≡ Some c)
              (append_assoc a.front (c ∷ []) (f ∷ back) ∙ whole)
              (get_of_first (a.front ++ c ∷ []) (f ∷ back) (length a.front) c (at_last a.front c))

      may : MayCome h a.placed.ends.items f
      may = (
        step.1.ends,
        subst (Contains h) call_is (e.explains.called c call_there step.0),
        λ g there end. one_end e.run c f g (serially_serial (Goes rows) 0 e.last e.run e.serially)
            (runs e.run e.last e.serially) step.0 end_there (e.explains.ended g there end.ends) step.1
            (subst (λ x. IsEndOf x g) (sym call_is) end),
        λ i at. due i (at ∙ ap Some (sym call_is)),
      )

      front_done : Serially (Goes rows) 0 (a.front ++ c ∷ f ∷ []) step.2
      front_done = serially_more (Goes rows) 0 a.placed.state step.2 a.front c f a.done step.0 step.1 step.3

      front_many : length (a.front ++ c ∷ f ∷ []) ≡ (count + 1) + (count + 1)
      front_many = let two = length-append a.front (c ∷ f ∷ []) in let so = a.many in omega (arith, two, so)

      -- so many calls have their places in the history
      fits : count < length h
      fits =
          let few = few_calls (a.front ++ c ∷ f ∷ []) h (serially_serial (Goes rows) 0 step.2 (a.front ++ c ∷ f ∷ [])
          front_done) (runs (a.front ++ c ∷ f ∷ []) step.2 front_done)
          (λ x there call. e.explains.called x (subst (λ l. Contains l x)
          (append_assoc a.front (c ∷ f ∷ []) back ∙ whole) (in_first (a.front ++ c ∷ f ∷ []) back x there)) call) in
          let many = front_many in
          omega (arith, few, many)

      on : (new : List Placed) → HasLike new step.2 (a.placed.ends.items ++ f ∷ []) → IsAhead new (count + 1)
      on new like = record {
        front = a.front ++ c ∷ f ∷ [];
        back = back;
        is = append_assoc a.front (c ∷ f ∷ []) back ∙ whole;
        placed = like.placed;
        there = like.there;
        done = subst (Serially (Goes rows) 0 (a.front ++ c ∷ f ∷ [])) (sym like.like.leaves) front_done;
        rest = subst (λ n. Serially (Goes rows) n back e.last) (sym like.like.leaves) step.4;
        ends = λ x there end. like.like.among x (by_part x end (in_both a.front (c ∷ f ∷ []) x there));
        many = front_many;
      }
        where
          by_second : (x : Event) → (f ≡ x) ⊎ Contains [] x → Contains (a.placed.ends.items ++ f ∷ []) x
          by_second x (inl is) = in_second a.placed.ends.items (f ∷ []) x
              (subst (Contains (f ∷ [])) is (there_first f []))
          by_second x (inr none) = absurd (there_not x none)

          by_first : (x : Event) → IsEnd x → (c ≡ x) ⊎ Contains (f ∷ []) x → Contains (a.placed.ends.items ++ f ∷ []) x
          by_first x end (inl is) = absurd (not_both x (subst IsCall is step.0) end)
          by_first x end (inr later) = by_second x (there_cases f x [] later)

          by_part : (x : Event) → IsEnd x → Contains a.front x ⊎ Contains (c ∷ f ∷ []) x →
              Contains (a.placed.ends.items ++ f ∷ []) x
          by_part x end (inl old) = in_first a.placed.ends.items (f ∷ []) x (a.ends x old end)
          by_part x end (inr new) = by_first x end (there_cases c x (f ∷ []) new)

    -- in a layer that hasn't finished, a call of the run is left
    pub next_ahead : (new : List Placed) → NoneFinished h layer → IsNext rows h layer new → IsAhead new (count + 1)
    next_ahead new none n = by_back a.back refl
      where
        by_back : (b : List Event) → a.back ≡ b → IsAhead new (count + 1)
        by_back [] is = absurd (none a.placed a.there (finished is))
        by_back (c ∷ []) is = absurd (subst (λ l. Serially (Goes rows) a.placed.state l e.last) is a.rest)
        by_back (c ∷ f ∷ back) is =
            on c f back is new (n.there a.placed a.there (outcome c f back is) (in_row c f back is) (may c f back is))

    pub few_layers : NoneFinished h layer → length h ≤ count → ⊥
    few_layers none many = by_back a.back refl
      where
        by_back : (b : List Event) → a.back ≡ b → ⊥
        by_back [] is = none a.placed a.there (finished is)
        by_back (c ∷ []) is = subst (λ l. Serially (Goes rows) a.placed.state l e.last) is a.rest
        by_back (c ∷ f ∷ back) is = let less = fits c f back is in absurd (omega (arith, less, many))
