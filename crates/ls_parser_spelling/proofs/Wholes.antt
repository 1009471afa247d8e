-- A span goes over the tokens of its expression.
use Rattle.std.proofs.Common.{◌≡◌, List, [], ◌∷◌, ◌++◌, refl, sym, ap, ◌∙◌, append_assoc}
use Rattle.ls_lexer.specs.declared.token.Span.{Span}
use Rattle.ls_tree.specs.declared.tree.BinaryOp.{BinaryOp}
use Rattle.ls_tree.specs.PlacedTrees.{Expression, Expressions, span_of}
use Rattle.ls_lexer.specs.declared.sign.Sign.TheVariants as signs
use Rattle.ls_parser_spelling.specs.Places.{Spot, sign, named, upto, class_name_at, At, OperandAt, IndexAt}
use Rattle.ls_parser_spelling.specs.Places.{ArgumentsAt, SomeAt, number_at, true_at, false_at, null_at, this_at}
use Rattle.ls_parser_spelling.specs.Places.{name_at, paren_at, unary_at, binary_at, field_at, call_at, call_on_at}
use Rattle.ls_parser_spelling.specs.Places.{item_at, new_at, new_markable_at, new_array_at, operand_at, index_at}
use Rattle.ls_parser_spelling.specs.Places.{none_at, some_at, one_at, more_at}
use Rattle.ls_parser_spelling.specs.Laws.{Whole, SpansAreWhole}

-- the tokens up to a last one, which ends a span, and the rest
record UpTo (span : Span) (ss rest : List Spot) : Type 0 where
  front : List Spot
  last : Spot
  is : ss ≡ front ++ last ∷ rest
  end : span.end ≡ last.span.end

one_token : (s : Spot) (rest : List Spot) → Whole s.span (s ∷ rest) rest
one_token s rest = record {
  first = s;
  others = rest;
  begins = refl;
  start = refl;
  front = [];
  last = s;
  finishes =
      refl;
  end = refl;
}

-- a token in front
after : {span : Span} {ss rest : List Spot} (s : Spot) → UpTo span ss rest → UpTo span (s ∷ ss) rest
after s u = record { front = s ∷ u.front; last = u.last; is = ap (λ (xs : List Spot). s ∷ xs) u.is; end = u.end }

-- what goes on after another span
behind : {span next : Span} {ss middle rest : List Spot} →
    UpTo span ss middle →
    UpTo next middle rest →
    UpTo next ss rest
behind u v = record {
  front = u.front ++ u.last ∷ v.front;
  last = v.last;
  is =
      u.is ∙ ap (λ (xs : List Spot). u.front ++ u.last ∷ xs) v.is ∙
      sym (append_assoc u.front (u.last ∷ v.front) (v.last ∷ _));
  end = v.end;
}

here : (s : Spot) (rest : List Spot) → UpTo s.span (s ∷ rest) rest
here s rest = record { front = []; last = s; is = refl; end = refl }

reaches : {span : Span} {ss rest : List Spot} → Whole span ss rest → UpTo span ss rest
reaches w = record { front = w.front; last = w.last; is = w.finishes; end = w.end }

-- from a first token to a last one
from_token : {last : Span} {ss rest : List Spot} (s : Spot) → UpTo last ss rest → Whole (upto s.span last) (s ∷ ss) rest
from_token s u = let v = after s u in
    record {
      first = s;
      others = _;
      begins = refl;
      start = refl;
      front = v.front;
      last = v.last;
      finishes = v.is;
      end =
          v.end;
    }

-- from the beginning of one span to the end of another
from_span : {span last : Span} {ss middle rest : List Spot} →
    Whole span ss middle →
    UpTo last middle rest →
    Whole (upto span last) ss rest
from_span w u = let v = behind (reaches w) u in
    record {
      first = w.first;
      others = w.others;
      begins = w.begins;
      start = w.start;
      front = v.front;
      last =
          v.last;
      finishes = v.is;
      end = v.end;
    }

mutual
  whole : {e : Expression} {ss rest : List Spot} → At e ss rest → Whole (span_of e) ss rest
  whole (number_at {rest = rest}) = one_token _ rest
  whole (true_at {rest = rest}) = one_token _ rest
  whole (false_at {rest = rest}) = one_token _ rest
  whole (null_at {rest = rest}) = one_token _ rest
  whole (this_at {rest = rest}) = one_token _ rest
  whole (name_at {rest = rest}) = one_token _ rest
  whole (paren_at {last = last} {rest = rest} h) =
      from_token _ (behind (reaches (whole h)) (here (sign signs.CloseParen last) rest))
  whole (unary_at h) = from_token _ (reaches (whole h))
  whole (binary_at h g) = from_span (whole h) (operand_reaches g)
  whole (field_at {name = name} {dot} {rest = rest} h) =
      from_span (whole h) (after (sign signs.Dot dot) (here (named name) rest))
  whole (call_at {opening = opening} g) = from_token _ (after (sign signs.OpenParen opening) (arguments_reach g))
  whole (call_on_at {name = name} {dot = dot} {opening} h g) =
      from_span (whole h)
      (after (sign signs.Dot dot) (after (named name) (after (sign signs.OpenParen opening) (arguments_reach g))))
  whole (item_at h g) = from_span (whole h) (index_reaches g)
  whole (new_at {class = class} {opening = opening} g) =
      from_token _ (after (named class) (after (sign signs.OpenParen opening) (arguments_reach g)))
  whole (new_markable_at {class = class} {opening = opening} (class_name_at {from = less} {last = greater}) g) =
      from_token _ (after _
      (after (sign signs.Less less)
      (after (named class)
      (after (sign signs.Greater greater) (after (sign signs.OpenParen opening) (arguments_reach g))))))
  whole (new_array_at g) = from_token _ (after _ (index_reaches g))

  operand_reaches : {op : BinaryOp} {right : Expression} {ss rest : List Spot} →
      OperandAt op right ss rest →
      UpTo (span_of right) ss rest
  operand_reaches (operand_at h) = after _ (reaches (whole h))

  index_reaches : {index : Expression} {last : Span} {ss rest : List Spot} →
      IndexAt index last ss rest →
      UpTo last ss rest
  index_reaches (index_at {last = last} {rest = rest} h) =
      after _ (behind (reaches (whole h)) (here (sign signs.CloseBracket last) rest))

  arguments_reach : {es : Expressions} {last : Span} {ss rest : List Spot} →
      ArgumentsAt es last ss rest →
      UpTo last ss rest
  arguments_reach (none_at {last} {rest}) = here (sign signs.CloseParen last) rest
  arguments_reach (some_at {last = last} {rest = rest} h) =
      behind (some_reach h).1 (here (sign signs.CloseParen last) rest)

  some_reach : {es : Expressions} {ss rest : List Spot} → SomeAt es ss rest → (span : Span) × UpTo span ss rest
  some_reach (one_at {e} h) = (span_of e, reaches (whole h))
  some_reach (more_at h k) = ((some_reach k).0, behind (reaches (whole h)) (after _ (some_reach k).1))

-- the law: a span goes over the tokens of its expression
pub spans_are_whole : SpansAreWhole
spans_are_whole e ss rest h = whole h
