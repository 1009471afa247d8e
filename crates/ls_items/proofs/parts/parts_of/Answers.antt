-- Why `parts_of` in src/parts.rt keeps its contract and its loop `line`.

use Rattle.std.proofs.Common.{◌≡◌, ◌∙◌, ◌++◌, ap, sym, refl, arith, map, ◌∷◌, [], List, ℕ, None, Some, rules, eqb}
use Rattle.std.specs.Prelude.{unwrap_or}
use Rattle.std.proofs.lemmas.List.{map_push}
use Rattle.std.proofs.lemmas.Str.Pattern.{split_once_first, split_parts}
use Rattle.std.specs.List.{after_first}
use Rattle.ls_items.specs.Cutting.{open_with, plain_text}
use Rattle.ls_items.specs.Parts.{groups_of, grown, lines_of}
use Rattle.ls_items.proofs.LineLemmas.{first_line, one_line}
use Rattle.ls_items.proofs.PartLemmas.{at_end, at_line, at_mark, line_after, so_far, whole}
use Rattle.ls_items.proofs.parts.parts_of.Goals as goal
use Rattle.ls_items.proofs.parts.parts_of.Goals.{then-eq-2+in_ok-push-2, else-eq-2}

pub loop-line-preserved-in_ok-push : goal.loop-line-preserved-in_ok-push
loop-line-preserved-in_ok-push c =
    let rest = c.loop-line.rest.now in
    let line = c.in-Some.line.now in
    let after = c.in-Some.after.now in
    let m = rw c.in-Some.is at
    (split_once_first 10 rest c.split_once.result c.split_once.ensures.cases (omega arith)) in
    let first : lines_of rest ≡ line ∷ lines_of after =
    first_line rest m.0 ∙ ap (λ x. x ∷ lines_of (after_first (λ b. eqb b 10) rest)) (sym m.1)
    ∙ ap (λ x. line ∷ lines_of x) (sym m.2) in
    let o = c.loop-line.invariant.parts in
    let done = map plain_text c.loop-line.parts.items in
    let told = ap (λ (ls : List (List ℕ)). done ++ open_with o.0 (groups_of ls)) (sym first) ∙ o.2 in
    let moved = at_mark done o.0 line (lines_of after) _ (sym c.eq.ensures ∙ c.if-eq.true) told in
    let so = so_far c.loop-line.part.now c.loop-line.len rest o.0 o.1 in
    let pushed = ap (map plain_text) c.in_ok-push.ensures.items
    ∙ map_push plain_text c.loop-line.parts.items c.split_at.result.0
    ∙ ap (λ (x : List ℕ). done ++ x ∷ []) (c.split_at.ensures.front ∙ so) in
    let rest_parts = open_with None (groups_of (lines_of after)) in
    record {
      rest_text = search rules;
      part_text = search rules;
      parts = (None, (refl, refl), ap (λ (xs : List (List ℕ)). xs ++ rest_parts) pushed ∙ moved);
    }

pub loop-line-preserved : goal.loop-line-preserved
loop-line-preserved c =
    let rest = c.loop-line.rest.now in
    let line = c.in-Some.line.now in
    let after = c.in-Some.after.now in
    let m = rw c.in-Some.is at
    (split_once_first 10 rest c.split_once.result c.split_once.ensures.cases (omega arith)) in
    let p = rw c.in-Some.is at (split_parts 10 rest c.split_once.result c.split_once.ensures.cases (omega arith)) in
    let first : lines_of rest ≡ line ∷ lines_of after =
    first_line rest m.0 ∙ ap (λ x. x ∷ lines_of (after_first (λ b. eqb b 10) rest)) (sym m.1)
    ∙ ap (λ x. line ∷ lines_of x) (sym m.2) in
    let o = c.loop-line.invariant.parts in
    let done = map plain_text c.loop-line.parts.items in
    let told = ap (λ (ls : List (List ℕ)). done ++ open_with o.0 (groups_of ls)) (sym first) ∙ o.2 in
    record {
      rest_text = search rules;
      part_text = search rules;
      parts = (
        Some (grown o.0 line),
        line_after c.loop-line.part.now c.loop-line.len rest o.0 line after o.1 p.0,
        at_line done o.0 line (lines_of after) _ (sym c.eq.ensures ∙ c.if-eq.false) told,
      );
    }

pub returns : goal.returns
returns c =
    let rest = c.loop-line.rest.now in
    let m = rw c.in_default.is at
    (split_once_first 10 rest c.split_once.result c.split_once.ensures.cases (omega arith)) in
    let o = c.loop-line.invariant.parts in
    let done = map plain_text c.loop-line.parts.items in
    let told = ap (λ (ls : List (List ℕ)). done ++ open_with o.0 (groups_of ls)) (sym (one_line rest m)) ∙ o.2 in
    let so = so_far c.loop-line.part.now c.loop-line.len rest o.0 o.1 in
    ap (map plain_text) c.in_ok-push-3.ensures.items ∙ map_push plain_text c.if-eq-2.parts.items c.if-eq-2.part
    ∙ elim c.if-eq-2.branch [
      | then-eq-2+in_ok-push-2 w ↦
          ap (λ p. map plain_text p.items ++ plain_text c.if-eq-2.part ∷ []) w.parts-is
          ∙ ap (λ b. map plain_text w.push-then-eq-2.new.self.items ++ plain_text b ∷ []) w.part-is
          ∙ ap (λ (xs : List (List ℕ)). xs ++ [] ∷ []) (ap (map plain_text) w.in_ok-push-2.ensures.items
          ∙ map_push plain_text c.loop-line.parts.items w.split_at-then-eq-2.result.0
          ∙ ap (λ (x : List ℕ). done ++ x ∷ []) (w.split_at-then-eq-2.ensures.front ∙ so))
          ∙ at_end (done ++ unwrap_or o.0 [] ∷ []) None _
          (at_mark done o.0 rest [] _ (sym c.eq-2.ensures ∙ w.if-eq-2.true) told)
      | else-eq-2 w ↦
          ap (λ p. map plain_text p.items ++ plain_text c.if-eq-2.part ∷ []) w.parts-is
          ∙ ap (λ b. done ++ plain_text b ∷ []) w.part-is
          ∙ ap (λ (x : List ℕ). done ++ x ∷ []) (whole c.loop-line.part.now c.loop-line.len rest o.0 o.1)
          ∙ at_end done (Some (grown o.0 rest)) _
          (at_line done o.0 rest [] _ (sym c.eq-2.ensures ∙ w.if-eq-2.false) told)
    ]
