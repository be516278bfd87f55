-- The names of the files of a folder of books.
use Rattle.std.specs.Prelude.{◌-◌, ℕ, List, [], ◌∷◌, ◌++◌, length, codes, decimal, replicate}
use Rattle.std.specs.List.{join_with_byte}
use Rattle.share_catalog.specs.Texts.{IsNumber}
use Rattle.share_catalog.specs.declared.names.BookFile.{BookFile}
use Rattle.share_catalog.specs.declared.names.FileKind.{FileKind}
use Rattle.share_catalog.specs.declared.names.FileKind.TheVariants.{Open, Audit, Lengths, Bad, Report, Part, Tariffs}

abbrev pub ending : FileKind → List ℕ
ending Open = codes "open"
ending Audit = codes "audit"
ending Lengths = codes "lengths"
ending Bad = codes "bad"
ending Report = codes "report"
ending Part = codes "part"
ending Tariffs = codes "tariffs"

-- the number of zeros that make six digits of that many
abbrev pub zeros_before : ℕ → List ℕ
zeros_before count = replicate (6 - count) 48

-- a number with at least six digits
abbrev pub padded : ℕ → List ℕ
padded n = zeros_before (length (decimal n)) ++ decimal n

abbrev pub file_text : BookFile → List ℕ
file_text f = join_with_byte 46 (padded f.number ∷ ending f.kind ∷ [])

abbrev pub IsFile : BookFile → Type 0
IsFile f = IsNumber f.number
