-- How many lists of arguments there are.
use Rattle.std.proofs.Common.{◌≡◌, ◌∙◌, ◌+◌, ◌-◌, ◌*◌, ◌<◌, ◌≤◌, ℕ, suc, List, [], ◌∷◌, ◌++◌, length, get_or, drop}
use Rattle.std.proofs.Common.{take, ap, arith, map, refl, string_bytes, subst, sym, String, Global, Bor}
use Rattle.std.proofs.lemmas.List.{length-append, length-map, map-append, take-map, take_all, take_more}
use Rattle.ls_items.specs.Cutting.{plain_text}
use Rattle.ls_tree.specs.Trees.{Parameter, Text}
use Rattle.ls_tree.specs.declared.tree.Parameter.{Parameter as Parsed}
use Rattle.ls_tree.specs.Views.{bare_parameter, bare_type}
use Rattle.ls_class_programs.specs.Limits.{AreTooMany, HaveTooMany}
use Rattle.ls_class_programs.specs.Menus.{and_then, arguments_of, with_argument, with_arguments}

pub many_with : (begun more : List Text) → length (with_argument begun more) ≡ length begun * length more
many_with [] more = omega arith
many_with (b ∷ begun) more = omega (
  arith,
  length-append (map (and_then b) more) (with_argument begun more),
  length-map more (and_then b),
  many_with begun more,
)

-- one more parameter
more_arguments : (ints : List Text) (begun : List Text) (ps : List Parameter) (p : Parameter) →
    with_arguments ints begun (ps ++ p ∷ []) ≡
    with_argument (with_arguments ints begun ps) (arguments_of ints p.type_name)
more_arguments ints begun [] p = refl
more_arguments ints begun (q ∷ ps) p = more_arguments ints (with_argument begun (arguments_of ints q.type_name)) ps p

pub next_arguments : (ints begun : List Text) (ps : List Parsed) (i : ℕ) (p : Parsed) →
    i < length ps → p ≡ get_or ps i p →
    with_arguments ints begun (map bare_parameter (take (i + 1) ps)) ≡
    with_argument (with_arguments ints begun (map bare_parameter (take i ps)))
    (arguments_of ints (bare_type p.type_name))
next_arguments ints begun ps i p within is =
    ap (λ l. with_arguments ints begun (map bare_parameter l)) (take_more ps i p within ∙
    ap (λ (q : Parsed). take i ps ++ q ∷ []) (sym is))
    ∙ ap (with_arguments ints begun) (map-append bare_parameter (take i ps) (p ∷ []))
    ∙ more_arguments ints begun (map bare_parameter (take i ps)) (bare_parameter p)

-- the first ones of a list are those of its bare parameters
pub first_parameters : (ints begun : List Text) (i : ℕ) (ps : List Parsed) →
    with_arguments ints begun (take i (map bare_parameter ps)) ≡
    with_arguments ints begun (map bare_parameter (take i ps))
first_parameters ints begun i ps = ap (with_arguments ints begun) (take-map bare_parameter i ps)

-- so many lists, and so many arguments after each
pub counted : (ints begun : List Text) (ps : List Parsed) (i : ℕ) (p : Parsed) (items : List (String Global))
    (more : List (Bor (List ℕ))) →
    i < length ps → p ≡ get_or ps i p →
    map string_bytes items ≡ with_arguments ints begun (map bare_parameter (take i ps)) →
    map plain_text more ≡ arguments_of ints (bare_type p.type_name) →
    length (with_arguments ints begun (map bare_parameter (take (i + 1) ps))) ≡ length items * length more
counted ints begun ps i p items more within is taken next =
    ap length (next_arguments ints begun ps i p within is)
    ∙ many_with (with_arguments ints begun (map bare_parameter (take i ps))) (arguments_of ints (bare_type p.type_name))
    ∙ ap (λ k. k * length (arguments_of ints (bare_type p.type_name)))
    (ap length (sym taken) ∙ length-map items string_bytes)
    ∙ ap (λ k. length items * k) (ap length (sym next) ∙ length-map more plain_text)

-- too many lists with arguments for the first parameter and others
pub many_in_all : (firsts ints begun : List Text) (ps : List Parsed) (p : Parsed) →
    1 ≤ length ps →
    p ≡ get_or ps 0 p →
    begun ≡ with_argument ([] ∷ []) (arguments_of firsts (bare_type p.type_name)) →
    HaveTooMany ints begun (map bare_parameter (take (length ps - 1) (drop 1 ps))) →
    AreTooMany firsts ints (map bare_parameter ps)
many_in_all firsts ints begun [] p some is are many = absurd (omega (arith, some))
many_in_all firsts ints begun (q ∷ ps) p some is are many =
    let same = are ∙ ap (λ (r : Parsed). with_argument ([] ∷ []) (arguments_of firsts (bare_type r.type_name))) is in
    let others : take (length (q ∷ ps) - 1) ps ≡ ps = take_all (length (q ∷ ps) - 1) ps (omega arith) in (
      suc many.0,
      subst (λ b. 1000 < length (with_arguments ints b (take many.0 (map bare_parameter ps)))) same
          (subst (λ l. 1000 < length (with_arguments ints begun (take many.0 (map bare_parameter l)))) others many.1),
    )
