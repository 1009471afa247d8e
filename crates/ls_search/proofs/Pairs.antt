-- Pairs that stay while tables grow and states are found.
use Rattle.std.proofs.Common.{◌≡◌, inl, inr, ℕ, suc, ◌<◌, ◌≤◌, List, [], ◌∷◌, ◌++◌, length, map}
use Rattle.std.proofs.Common.{Some, refl, sym, ap, ◌∙◌, subst, arith}
use Rattle.std.specs.Prelude.{slice_get, slice_index_or}
use Rattle.std.proofs.lemmas.List.{map-append}
use Rattle.std.proofs.lemmas.Option.{get_or_from_slice_get}
pub use Rattle.ls_graph.proofs.Lists.{keeps_pushed, last_there, map_from, map_there, pushed_where}
use Rattle.ls_search_laws.specs.Configuration.{Configuration}
use Rattle.ls_search_laws.specs.Noticing.{Noticed}
use Rattle.ls_transitions.specs.Tables.{Table, Grows, Keeps}
use Rattle.ls_transitions.proofs.Keeping.{below, still_below, there}
use Rattle.ls_search.specs.declared.places.Node.{Node}
use Rattle.ls_search.specs.declared.places.NumberedState.{NumberedState}
use Rattle.ls_search.specs.Places.{configuration_at, configuration_of}
use Rattle.ls_search.specs.Found.{HasPlace, Pushed}
use Rattle.ls_search.specs.Searched.{IsNode, noticed_at, pairs_at}
use Rattle.ls_search.proofs.Strides.{stays, there_still}

-- ---- lists

pub keeps_both : {A : Type 0} (xs ys zs : List A) → Keeps xs ys → Keeps ys zs → Keeps xs zs
keeps_both xs ys zs g h n x e = h n x (g n x e)

pub keeps_longer : {A : Type 0} (xs ys : List A) → Keeps xs ys → length xs ≤ length ys
keeps_longer [] ys keeps = omega arith
keeps_longer (x ∷ xs) ys keeps =
    let last = there (x ∷ xs) (length xs) (omega arith) in
    let within : length xs < length ys = below ys (length xs) last.0 (keeps (length xs) last.0 last.1) in
    omega (arith, within)

-- images by functions that agree on a list's items
same_images : {A B : Type 0} (f g : A → B) (xs : List A) →
    ((i : ℕ) (x : A) → slice_get xs i ≡ Some x → f x ≡ g x) →
    map f xs ≡ map g xs
same_images f g [] same = refl
same_images f g (x ∷ xs) same =
    ap (λ y. y ∷ map f xs) (same 0 x refl)
    ∙ ap (λ l. g x ∷ l) (same_images f g xs (λ i y e. same (suc i) y e))

-- ---- states by numbers

module _ {S : Type 0} (first : S) (t t' : Table) (states states' : List S) (grows : Grows t t')
    (keeps : Keeps states states') where
  pub node_stays : (threads : ℕ) (p : NumberedState) → IsNode t states threads p → IsNode t' states' threads p
  node_stays threads p h = record {
    numbers = there_still t t' p.store p.works.items grows h.numbers;
    noted_there = still_below states states' p.noted keeps h.noted_there;
    width = h.width;
  }

  pub noted_stays : (noted : ℕ) → noted < length states → slice_index_or states' noted first ≡ slice_index_or states
      noted first
  noted_stays noted within =
      let at = there states noted within in
      get_or_from_slice_get states' noted at.0 first (keeps noted at.0 at.1)
      ∙ sym (get_or_from_slice_get states noted at.0 first at.1)

  pub pair_stays : (threads : ℕ) (p : NumberedState) → IsNode t states threads p →
      noticed_at first t' states' p ≡ noticed_at first t states p
  pair_stays threads p h =
      ap (λ (c : Configuration). record { configuration = c; noted = slice_index_or states' p.noted first })
      (stays t t' p.store p.works.items grows h.numbers)
      ∙ ap (λ (s : S). record { configuration = configuration_of t p; noted = s }) (noted_stays p.noted h.noted_there)

  module _ (threads : ℕ) (nodes : List Node)
      (are : (at : ℕ) (n : Node) → slice_get nodes at ≡ Some n → IsNode t states threads n.place) where
    pub pairs_stay : pairs_at first t' states' nodes ≡ pairs_at first t states nodes
    pairs_stay =
        same_images (λ (n : Node). noticed_at first t' states' n.place) (λ (n : Node). noticed_at first t states
        n.place)
        nodes (λ i n e. pair_stays threads n.place (are i n e))

    pub pairs_keep : (nodes' : List Node) (node : Node) → Pushed nodes nodes' node →
        Keeps (pairs_at first t states nodes) (pairs_at first t' states' nodes')
    pairs_keep nodes' node (inl same) =
        subst (Keeps (pairs_at first t states nodes)) (sym (ap (pairs_at first t' states') same ∙ pairs_stay))
        (λ n x h. h)
    pairs_keep nodes' node (inr more) =
        let is : pairs_at first t' states' nodes' ≡ pairs_at first t states nodes ++ noticed_at first t' states'
        node.place ∷ [] =
        ap (pairs_at first t' states') more
        ∙ map-append (λ (n : Node). noticed_at first t' states' n.place) nodes (node ∷ [])
        ∙ ap (λ (l : List (Noticed S)). l ++ noticed_at first t' states' node.place ∷ []) pairs_stay in
        subst (Keeps (pairs_at first t states nodes)) (sym is)
        (keeps_pushed (pairs_at first t states nodes) (noticed_at first t' states' node.place))

-- a state that is there stands there with what is noted
pub place_there : {S : Type 0} (first : S) (t : Table) (states : List S) (nodes : List Node) (p : NumberedState) →
    HasPlace nodes p →
    (k : ℕ) × (slice_get (pairs_at first t states nodes) k ≡ Some (noticed_at first t states p))
place_there {S} first t states nodes p h =
    let here : slice_get (pairs_at first t states nodes) h.at ≡ Some (noticed_at first t states h.node.place) =
    map_there (λ (n : Node). noticed_at first t states n.place) nodes h.at h.node h.here in
    let of_store : noticed_at first t states h.node.place ≡ noticed_at first t states p =
    λ i. record {
      configuration = configuration_at t (h.store i) (h.works i);
      noted = slice_index_or states (h.noted i) first;
    } in
    (h.at, here ∙ ap Some of_store)
