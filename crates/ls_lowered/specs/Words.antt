-- Machine words read as ints, booleans, pairs and kinds: the definitions are those of the machine's code.
pub use Rattle.ls_code.specs.Words.{int_of, word_of, bool_word, bool_of, sum_word, difference_word, product_word}
pub use Rattle.ls_code.specs.Words.{quotient_word, remainder_word, negative_word, less_word, at_most_word, same_word}
pub use Rattle.ls_code.specs.Words.{not_word, other_word, pair_word}
pub use Rattle.ls_code.specs.Throws.{kind_word}
pub use Rattle.ls_code.specs.Kinds.{kind_of}
