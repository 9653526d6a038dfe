-- The one printed form of a program. Numbers are decimal without leading zeros, and each line ends with a line feed.
use Rattle.std.specs.Prelude.{ℕ, ◌+◌, List, [], ◌∷◌, ◌++◌, length, codes}
use Rattle.std.specs.List.{flat_map}
use Rattle.std.specs.Fmt.{decimal}
use Rattle.node_program.specs.Term.{Term, Literal, Identifier, LeftMessage, RightMessage, RegisterValue, One, Two}
use Rattle.node_program.specs.Term.{Choose, Round, ProgramTree}
use Rattle.node_lang.specs.Words.{unary_name, binary_name}

-- the name of an expression's operation, or an empty name
abbrev pub operation_name : Term → List ℕ
operation_name (One o a) = unary_name o
operation_name (Two o a b) = binary_name o
operation_name (Choose c a b) = codes "if"
operation_name _ = []

-- the word that an expression is printed with, without its operands
abbrev pub own_word : Term → List ℕ
own_word (Literal n) = decimal n
own_word Identifier = codes "id"
own_word LeftMessage = codes "L"
own_word RightMessage = codes "R"
own_word (RegisterValue j) = codes "r" ++ decimal j
own_word operation = operation_name operation

-- an expression: its operands are separated by a comma and one blank, with no other blanks in it
abbrev pub printed_expression : Term → List ℕ
printed_expression (One o a) = unary_name o ++ (codes "(" ++ (printed_expression a ++ codes ")"))
printed_expression (Two o a b) =
    binary_name o ++ (codes "(" ++ (printed_expression a ++ (codes ", " ++ (printed_expression b ++ codes ")"))))
printed_expression (Choose c a b) = codes "if" ++ (codes "(" ++ (printed_expression c
    ++ (codes ", " ++ (printed_expression a ++ (codes ", " ++ (printed_expression b ++ codes ")"))))))
printed_expression leaf = own_word leaf

-- the assignment of an expression to register j
abbrev pub assignment_line : ℕ → Term → List ℕ
assignment_line j e = codes "r" ++ (decimal j ++ (codes " = " ++ (printed_expression e ++ codes "\n")))

-- assignments to the registers from j on
abbrev pub assignment_lines : ℕ → List Term → List ℕ
assignment_lines j [] = []
assignment_lines j (e ∷ es) = assignment_line j e ++ assignment_lines (j + 1) es

-- the message of a round to one side
abbrev pub send_line : List ℕ → Term → List ℕ
send_line side e = codes "send " ++ (side ++ (codes " " ++ (printed_expression e ++ codes "\n")))

-- a round
abbrev pub round_lines : Round → List ℕ
round_lines s = codes "round\n"
    ++ (send_line (codes "left") s.left ++ (send_line (codes "right") s.right ++ assignment_lines 0 s.next))

-- the lines of the header
abbrev pub header_lines : ProgramTree → List ℕ
header_lines p = codes "rounds " ++ (decimal (length p.steps) ++ (codes "\nchannels " ++ (decimal p.channels
    ++ (codes "\nregisters " ++ (decimal (length p.start) ++ codes "\nstart\n")))))

-- the line of the channel
abbrev pub finish_line : Term → List ℕ
finish_line e = codes "finish " ++ (printed_expression e ++ codes "\n")

-- a whole program
abbrev pub printed : ProgramTree → List ℕ
printed p = header_lines p ++ (assignment_lines 0 p.start ++ (flat_map round_lines p.steps ++ finish_line p.finish))
