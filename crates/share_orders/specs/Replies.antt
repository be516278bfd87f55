-- The texts of replies, and the replies that a connection has not taken.
use Rattle.std.specs.Prelude.{ℕ, List, ◌++◌, codes, decimal}

-- the number of the book that was begun
abbrev pub book_text : ℕ → List ℕ
book_text number = codes "book " ++ decimal number ++ codes "\n"

-- why a plan was not read anew
abbrev pub fault_text : List ℕ → List ℕ
fault_text reason = codes "no " ++ reason ++ codes "\n"
