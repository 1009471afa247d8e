-- The text of a tally, part by part.
use Rattle.std.proofs.Common.{◌≡◌, ◌∙◌, List, [], ◌∷◌, ◌++◌, map, refl, sym, ap, ap₂, subst, append-nil, append_assoc}
use Rattle.std.specs.Prelude.{IfOk, Ok, Result}
use Rattle.std.specs.List.{AllZip, flat_map}
use Rattle.std.proofs.lemmas.List.{map-append}
use Rattle.ls_checked.specs.CheckedProgram.{Program}
use Rattle.ls_report.specs.Events.{Text}
use Rattle.ls_batch.specs.Printing.{entry_text, tally_text}
use Rattle.ls_batch.specs.Tallies.{Row}
use Rattle.ls_batch.proofs.Batched.{zip_last}

abbrev pub whole : List Text → Text
whole = flat_map (λ text. text)

whole_more : (texts : List Text) (text : Text) → whole (texts ++ text ∷ []) ≡ whole texts ++ text
whole_more [] text = append-nil text
whole_more (t ∷ ts) text = ap (λ rest. t ++ rest) (whole_more ts text) ∙ sym (append_assoc t (whole ts) text)

-- the part's text is this, where no memory was refused
module _ {S E : Type 0} (bytes : S → Text) where
  abbrev pub IsSaid : Text → Result S E → Type 0
  IsSaid text part = IfOk part (λ said. bytes said ≡ text)

  -- the text of the parts so far
  abbrev pub IsText : List (Result S E) → Text → Type 0
  IsText parts out = (texts : List Text) → AllZip IsSaid texts parts → out ≡ whole texts

  pub more_text : (parts : List (Result S E)) (part : Result S E) (said : S) (out new : Text) →
      IsText parts out →
      part ≡ Ok said →
      new ≡ out ++ bytes said →
      IsText (parts ++ part ∷ []) new
  more_text parts part said out new so_far is e texts zip =
      let cut = zip_last IsSaid texts parts part zip in
      let own : bytes said ≡ cut.1 = subst (IsSaid cut.1) is cut.4 in
      e ∙ ap₂ (λ (a b : Text). a ++ b) (so_far cut.0 cut.3) own ∙ sym (whole_more cut.0 cut.1) ∙ ap whole (sym cut.2)

  -- groups of entries as their texts
  pub zip_texts : {X : Type 0} (f : List X → Text) (groups : List (List X)) (parts : List (Result S E)) →
      AllZip (λ group part. IfOk part (λ said. bytes said ≡ f group)) groups parts
      → AllZip IsSaid (map f groups) parts
  zip_texts f [] [] zip = tt
  zip_texts f [] (p ∷ ps) zip = absurd zip
  zip_texts f (g ∷ gs) [] zip = absurd zip
  zip_texts f (g ∷ gs) (p ∷ ps) zip = (zip.0, zip_texts f gs ps zip.1)

pub no_text : {S : Type 0} (E : Type 0) (bytes : S → Text) (out : Text) → out ≡ [] → IsText {S = S} {E = E} bytes [] out
no_text E bytes out e [] zip = e
no_text E bytes out e (t ∷ ts) zip = absurd zip

text_append : (p : Program) (rs ms : List Row) → tally_text p (rs ++ ms) ≡ tally_text p rs ++ tally_text p ms
text_append p [] ms = refl
text_append p (r ∷ rs) ms = ap (λ t. entry_text p r ++ t) (text_append p rs ms) ∙
    sym (append_assoc (entry_text p r) (tally_text p rs) (tally_text p ms))

pub whole_text : {X : Type 0} (p : Program) (row : X → Row) (groups : List (List X)) →
    flat_map (λ (t : Text). t) (map (λ group. tally_text p (map row group)) groups)
    ≡ tally_text p (map row (flat_map (λ group. group) groups))
whole_text p row [] = refl
whole_text p row (g ∷ gs) =
    ap (λ t. tally_text p (map row g) ++ t) (whole_text p row gs)
    ∙ sym (text_append p (map row g) (map row (flat_map (λ group. group) gs))) ∙
    ap (tally_text p) (sym (map-append row g (flat_map (λ group. group) gs)))
