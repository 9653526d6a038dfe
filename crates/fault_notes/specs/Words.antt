-- The texts of notes for what can follow at an offset, and for the word there.
use Rattle.std.specs.Prelude.{ℕ, ◌==◌, ◌++◌, List, [], take, codes, Option, Some, None, if◌then◌else◌}
use Rattle.std.specs.List.{prefix_len}
use Rattle.std.specs.Fmt.{decimal}
use Rattle.node_lang.specs.Words.{is_word_byte}
use Rattle.node_lang.specs.declared.expected.Expected.{Expected}
use Rattle.node_lang.specs.declared.expected.Expected.TheVariants as expected
use Rattle.node_lang.specs.declared.token.Token.{Token}
use Rattle.node_lang.specs.declared.token.Token.TheVariants as token

-- the text for a word or a mark
abbrev pub spelled : Token → List ℕ
spelled token.Rounds = codes "`rounds`"
spelled token.Channels = codes "`channels`"
spelled token.Registers = codes "`registers`"
spelled token.Start = codes "`start`"
spelled token.Round = codes "`round`"
spelled token.Send = codes "`send`"
spelled token.Left = codes "`left`"
spelled token.Right = codes "`right`"
spelled token.Finish = codes "`finish`"
spelled token.Open = codes "`(`"
spelled token.Close = codes "`)`"
spelled token.Comma = codes "`,`"
spelled token.Equals = codes "`=`"
spelled _ = []

-- the text for what can follow
abbrev pub wanted_text : Expected → List ℕ
wanted_text (expected.This (token.Register j)) = codes "the assignment of r" ++ decimal j
wanted_text (expected.This t) = spelled t
wanted_text expected.Number = codes "a number"
wanted_text expected.Expression = codes "an expression"
wanted_text expected.End = codes "the end of the text"

-- the part of a note for what can follow, if it is known
abbrev pub wanted_part : Option Expected → List ℕ
wanted_part None = []
wanted_part (Some w) = codes "; expected " ++ wanted_text w

-- the word at the start of a text, or its first byte if it does not begin with a word
abbrev pub first_word : List ℕ → List ℕ
first_word text = if prefix_len is_word_byte text == 0 then take 1 text else take (prefix_len is_word_byte text) text
