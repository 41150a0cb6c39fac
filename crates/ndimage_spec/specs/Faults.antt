-- What can be wrong with a line, by its number, and how that is said.
--   fault_number f      the number of a fault
--   fault_slot f        what the reader's state holds for a fault, or for none: its number, or 0
--   fault_texts         the texts by their numbers; 0 is nothing
--   text_of fault       the text of a fault
--   shows_token text    whether the token that is wrong stands behind the text: where it ends in a space
--   fault_of k          the fault of a token that is not of kind k
--   visible_of x        a byte as it is shown: a question mark for what is no visible character
use Rattle.std.specs.Prelude.{ℕ, ◌-◌, Bool, cond, ◌||◌, List, [], ◌∷◌, eqb, ltb, length, get_or, Option, Some, None}
use Rattle.words.specs.Words.{word_list}
use Rattle.ndimage_spec.specs.declared.Kind.{Kind}
use Rattle.ndimage_spec.specs.declared.Kind.TheVariants.{Form, Border, Padding, Kernel, Count, Whole, Level, Bytes}
use Rattle.ndimage_spec.specs.declared.Fault.{Fault}
use Rattle.ndimage_spec.specs.declared.Fault.TheVariants as Of

abbrev pub fault_number : Fault → ℕ
fault_number Of.Request = 1
fault_number Of.Missing = 2
fault_number Of.Extra = 3
fault_number Of.Number = 4
fault_number Of.Mode = 5
fault_number Of.Form = 6
fault_number Of.Kernel = 7
fault_number Of.Weights = 8
fault_number Of.Long = 9
fault_number Of.Mask = 10
fault_number Of.Empty = 11
fault_number Of.Bytes = 12
fault_number Of.ManyBytes = 13
fault_number Of.ManySteps = 14
fault_number Of.Field = 15

abbrev pub fault_slot : Option Fault → ℕ
fault_slot None = 0
fault_slot (Some f) = fault_number f

abbrev pub fault_texts : List (List ℕ)
fault_texts = word_list (
    ""
    ∷ "unknown request"
    ∷ "missing token"
    ∷ "extra token"
    ∷ "not a number: "
    ∷ "unknown mode: "
    ∷ "neither i nor f: "
    ∷ "unknown kernel: "
    ∷ "too many weights"
    ∷ "line too long"
    ∷ "a cell of a mask is neither 0 nor 1"
    ∷ "empty line"
    ∷ "not bytes in hexadecimal: "
    ∷ "too many bytes"
    ∷ "too many steps"
    ∷ "a number of a step is beyond its field"
    ∷ [])

abbrev pub text_of : ℕ → List ℕ
text_of fault = get_or fault_texts fault []

abbrev pub shows_token : List ℕ → Bool
shows_token text = eqb (get_or text (length text - 1) 0) 32

abbrev pub fault_of : Kind → ℕ
fault_of Form = 6
fault_of Border = 5
fault_of Padding = 5
fault_of Kernel = 7
fault_of Count = 4
fault_of Whole = 4
fault_of Level = 4
fault_of Bytes = 12

abbrev pub visible_of : ℕ → ℕ
visible_of x = cond (ltb x 33 || ltb 126 x) 63 x
