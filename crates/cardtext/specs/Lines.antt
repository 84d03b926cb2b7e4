-- What a line of the input is, and what is printed of it.
use Rattle.std.specs.Prelude.{ℕ, ◌-◌, Bool, cond, ◌||◌, List, [], length, take, Some, None, codes, Option, ◌==◌, slice_index}
use Rattle.std.specs.List.{list_all}
use Rattle.hexadecimal.specs.Digits.{is_blank, bytes_of}
use Rattle.cardtext.specs.Report.{report_of}

-- A line is skipped, is no text, or is the text with these bytes.
pub data Read : Type 0 where
  skipped : Read
  no_text : Read
  text_of : List ℕ → Read

-- without a line feed at its end
abbrev pub without_feed : List ℕ → List ℕ
without_feed cs = cond (slice_index cs (length cs - 1) == 10) (take (length cs - 1) cs) cs

-- nothing but blanks
abbrev pub all_blank : List ℕ → Bool
all_blank cs = list_all is_blank cs

-- a comment starts with '#'
abbrev pub is_comment : List ℕ → Bool
is_comment cs = slice_index cs 0 == 35

abbrev pub text_read : Option (List ℕ) → Read
text_read None = no_text
text_read (Some bs) = text_of bs

-- what a line is, without the character that ends it
abbrev pub line_read : List ℕ → Read
line_read cs = cond (is_comment cs || all_blank cs) skipped (text_read (bytes_of cs))

abbrev pub read_printed : Read → List ℕ
read_printed skipped = []
read_printed no_text = codes "not hexadecimal\n"
read_printed (text_of bs) = report_of bs

-- all that is printed of a line
abbrev pub line_printed : List ℕ → List ℕ
line_printed cs = read_printed (line_read (without_feed cs))
