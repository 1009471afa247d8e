-- The rows of chosen states, one for each history that ends, and one for each from which none goes on.
use Rattle.std.proofs.Common.{◌≡◌, ℕ, ◌<◌, Bool, true, false, not, List, length, Option, Some, refl}
use Rattle.std.proofs.Common.{sym, ap, ◌∙◌, subst, arith}
use Rattle.std.specs.Prelude.{Contains, slice_get}
use Rattle.ls_events.specs.Beginnings.{IsBeginning}
use Rattle.ls_events.specs.declared.event.Event.{Event}
use Rattle.ls_history_numbers.specs.Choices.{IsBegun as BeginsNumber, IsChosen, IsCovered, IsEnd as IsEndOf}
use Rattle.ls_history_numbers.specs.Numbers.{AreNumbered, IsOf}
use Rattle.ls_history_numbers.specs.declared.numbering.Known.{Known}
use Rattle.ls_history_numbers.proofs.Lists.{below, some_is, there}
use Rattle.ls_search.specs.declared.places.Node.{Node}
use Rattle.ls_search.specs.declared.places.Seen.{Seen}
use Rattle.ls_source_rows.specs.Listed.{HasEndOf, IsBegunBy, IsRowOf, TellListed, ending_by, ending_of}
use Rattle.ls_source_rows.specs.Rows.{AreApart, IsEnd, StandAlone}
use Rattle.ls_source_rows.specs.declared.rows.Row.{Row}

ends_still : (waits : Bool) → IsEnd (ending_by false waits)
ends_still true = tt
ends_still false = tt

not_true : (b : Bool) → not b ≡ true → b ≡ false
not_true true e = cc
not_true false e = refl

end_acts : (acts waits : Bool) → acts ≡ false → IsEnd (ending_by acts waits)
end_acts true waits e = cc
end_acts false waits e = ends_still waits

of_same : (all : List Known) (n : ℕ) (g h : List Event) → IsOf all n g → IsOf all n h → g ≡ h
of_same all n g h (k, k_is, e) (l, l_is, f) =
    sym e ∙ ap (λ (x : Known). x.events.items) (some_is (sym k_is ∙ l_is)) ∙ f

-- each history has a number, each state that of its history, and it is known of the first states whether they end
pub record Numbered (values : List (List Event)) (nodes : List Node) (seen : List Seen) (all : List Known)
    (numbers each : List ℕ) (ends : List Bool) : Type 0 where
  pub numbered : AreNumbered all
  pub many_numbers : length numbers ≡ length values
  pub of_values : (i n : ℕ) → slice_get numbers i ≡ Some n → (h : List Event) × (slice_get values i ≡ Some h)
      × IsOf all n h
  pub many_each : length each ≡ length nodes
  pub of_nodes : (at : ℕ) (node : Node) (n : ℕ) → slice_get nodes at ≡ Some node →
      slice_get numbers node.place.noted ≡ Some n → slice_get each at ≡ Some n
  pub noted_there : (at : ℕ) (node : Node) → slice_get nodes at ≡ Some node → node.place.noted < length values
  pub many_ends : length ends ≡ length seen
  pub of_seen : (at : ℕ) (s : Seen) → slice_get seen at ≡ Some s → slice_get ends at ≡ Some (not s.acts)

-- the same, by lists that are lent
pub numbered_by : (values : List (List Event)) (nodes : List Node) (seen : List Seen) (all : List Known)
    (numbers each : List ℕ) (ends : List Bool) (numbers' : List ℕ) (all' : List Known) (each' : List ℕ)
    (ends' : List Bool) → numbers' ≡ numbers → all' ≡ all → each' ≡ each → ends' ≡ ends → AreNumbered all →
    length numbers ≡ length values →
    ((i n : ℕ) → slice_get numbers i ≡ Some n → (h : List Event) × (slice_get values i ≡ Some h) × IsOf all n h) →
    length each ≡ length nodes →
    ((at : ℕ) (node : Node) (n : ℕ) → slice_get nodes at ≡ Some node →
    slice_get numbers' node.place.noted ≡ Some n → slice_get each at ≡ Some n) →
    ((at : ℕ) (node : Node) → slice_get nodes at ≡ Some node → node.place.noted < length values) →
    length ends ≡ length seen →
    ((at : ℕ) (s : Seen) → slice_get seen at ≡ Some s → slice_get ends at ≡ Some (not s.acts)) →
    Numbered values nodes seen all' numbers each' ends'
numbered_by values nodes seen all numbers each ends numbers' all' each' ends' lent_numbers lent_all lent_each lent_ends
    numbered many_numbers of_values many_each of_nodes noted_there many_ends of_seen =
    subst (λ (l : List Known). Numbered values nodes seen l numbers each' ends') (sym lent_all)
    (subst (λ (l : List ℕ). Numbered values nodes seen all numbers l ends') (sym lent_each)
    (subst (Numbered values nodes seen all numbers each) (sym lent_ends) (record {
      numbered = numbered;
      many_numbers = many_numbers;
      of_values = of_values;
      many_each = many_each;
      of_nodes = λ at node n here is.
          of_nodes at node n here (ap (λ (l : List ℕ). slice_get l node.place.noted) lent_numbers ∙ is);
      noted_there = noted_there;
      many_ends = many_ends;
      of_seen = of_seen;
    })))

module _ (values : List (List Event)) (nodes : List Node) (seen : List Seen) (all : List Known)
    (numbers each : List ℕ) (ends : List Bool) (told : Numbered values nodes seen all numbers each ends) where
  pub record Facts (at : ℕ) (node : Node) : Type 0 where
    pub number : ℕ
    pub number_is : slice_get each at ≡ Some number
    pub history : List Event
    pub history_is : slice_get values node.place.noted ≡ Some history
    pub of : IsOf all number history

  -- the number of a state's history
  pub facts : (at : ℕ) (node : Node) → slice_get nodes at ≡ Some node → Facts at node
  facts at node here =
      let i = there numbers node.place.noted
      (let w = told.noted_there at node here in omega (arith, w, told.many_numbers)) in
      let v = told.of_values node.place.noted i.0 i.1 in
      record {
        number = i.0;
        number_is = told.of_nodes at node i.0 here i.1;
        history = v.0;
        history_is = v.1;
        of = v.2;
      }

  -- the history of a row of the state has the number
  pub row_of_number : (at n : ℕ) (r : Row) → slice_get each at ≡ Some n → IsRowOf values nodes seen at r →
      IsOf all n r.history.items
  row_of_number at n r has h =
      let f = facts at h.node h.here in
      let n_is : f.number ≡ n = some_is (sym f.number_is ∙ has) in
      let h_is : f.history ≡ r.history.items = some_is (sym f.history_is ∙ h.history) in
      subst (λ m. IsOf all m r.history.items) n_is (subst (IsOf all f.number) h_is f.of)

  -- a row of a state that ends
  row_ends : (n at : ℕ) (r : Row) → IsEndOf each ends n at → IsRowOf values nodes seen at r → IsEnd r.ending
  row_ends n at r end h =
      let s = there seen at (let b = below ends at true end.still in omega (arith, b, told.many_ends)) in
      let still : s.0.acts ≡ false = not_true s.0.acts (some_is (sym (told.of_seen at s.0 s.1) ∙ end.still)) in
      subst IsEnd (sym (h.ending ∙ ap ending_of s.1)) (end_acts s.0.acts s.0.waits still)

  -- the number of a state is there
  pub number_there : (at n : ℕ) → slice_get each at ≡ Some n → n < length all
  number_there at n has =
      let node = there nodes at (let b = below each at n has in omega (arith, b, told.many_each)) in
      let f = facts at node.0 node.1 in
      let is : f.number ≡ n = some_is (sym f.number_is ∙ has) in
      subst (λ k. k < length all) is (below all f.number f.of.0 f.of.1)

  -- states whose rows have one history have one number
  pub one_number : (at n other m : ℕ) (r s : Row) → slice_get each at ≡ Some n → slice_get each other ≡ Some m →
      IsRowOf values nodes seen at r → IsRowOf values nodes seen other s → r.history.items ≡ s.history.items → n ≡ m
  one_number at n other m r s has other_has row other_row same =
      let f = row_of_number at n r has row in
      let g = row_of_number other m s other_has other_row in
      told.numbered.apart n m f.0 g.0 f.1 g.1 (f.2 ∙ same ∙ sym g.2)

  module _ (choices : List (Option ℕ)) (has : (n at : ℕ) → IsChosen choices n at → slice_get each at ≡ Some n)
      (ends_chosen : (n at : ℕ) → IsEndOf each ends n at →
      (first : ℕ) × IsChosen choices n first × IsEndOf each ends n first)
      (covers : (n at : ℕ) → slice_get each at ≡ Some n → IsCovered all choices n)
      (alone : (n at m other : ℕ) → IsChosen choices n at → (IsEndOf each ends n at → ⊥) →
      slice_get each other ≡ Some m → BeginsNumber all n m → n ≡ m) (rows : List Row)
      (own : (r : Row) → Contains rows r → (n : ℕ) × (at : ℕ) × IsChosen choices n at
      × IsRowOf values nodes seen at r)
      (made : (n at : ℕ) → IsChosen choices n at → (r : Row) × Contains rows r × IsRowOf values nodes seen at r)
      (apart : AreApart rows) where
    ended : (at : ℕ) (node : Node) (s : Seen) → slice_get nodes at ≡ Some node → slice_get seen at ≡ Some s →
        s.acts ≡ false → HasEndOf values nodes seen rows node
    ended at node s here s_is still =
        let f = facts at node here in
        let x = ends_chosen f.number at
        (record { has = f.number_is; still = told.of_seen at s s_is ∙ ap (λ b. Some (not b)) still }) in
        let m = made f.number x.0 x.1 in
        let same : f.history ≡ m.0.history.items =
        of_same all f.number f.history m.0.history.items f.of
        (row_of_number x.0 f.number m.0 (has f.number x.0 x.1) m.2) in
        record {
          row = m.0;
          there = m.1;
          history = f.history_is ∙ ap Some same;
          ends = row_ends f.number x.0 m.0 x.2 m.2;
        }

    covered : (at : ℕ) (node : Node) → slice_get nodes at ≡ Some node → IsBegunBy values nodes seen rows node
    covered at node here =
        let f = facts at node here in
        let c = covers f.number at f.number_is in
        let m = made c.number c.place c.chosen in
        let first : c.begun.first.events.items ≡ f.history =
        of_same all f.number c.begun.first.events.items f.history (c.begun.first, c.begun.first_is, refl) f.of in
        let second : c.begun.second.events.items ≡ m.0.history.items =
        of_same all c.number c.begun.second.events.items m.0.history.items (c.begun.second, c.begun.second_is, refl)
        (row_of_number c.place c.number m.0 (has c.number c.place c.chosen) m.2) in
        record {
          row = m.0;
          there = m.1;
          history = f.history;
          is = f.history_is;
          begins = subst (λ h. IsBeginning h m.0.history.items) first
              (subst (IsBeginning c.begun.first.events.items) second c.begun.begins);
        }

    stand : StandAlone rows
    stand r s r_there s_there unended begins =
        let a = own r r_there in
        let b = own s s_there in
        let r_of = row_of_number a.1 a.0 r (has a.0 a.1 a.2) a.3 in
        let s_of = row_of_number b.1 b.0 s (has b.0 b.1 b.2) b.3 in
        let same : a.0 ≡ b.0 =
        alone a.0 a.1 b.0 b.1 a.2 (λ end. unended (row_ends a.0 a.1 r end a.3)) (has b.0 b.1 b.2) (record {
          first = r_of.0;
          first_is = r_of.1;
          second = s_of.0;
          second_is = s_of.1;
          begins = subst (λ h. IsBeginning h s_of.0.events.items) (sym r_of.2)
              (subst (IsBeginning r.history.items) (sym s_of.2) begins);
        }) in
        of_same all b.0 r.history.items s.history.items (subst (λ n. IsOf all n r.history.items) same r_of) s_of

    pub tell_listed : TellListed values nodes seen rows
    tell_listed = record {
      own = λ r c. let a = own r c in (a.1, a.3);
      ended = ended;
      covers = covered;
      alone = stand;
      apart = apart;
    }
