-- The text of a quote.
use Rattle.std.specs.Prelude.{ℕ, suc, ◌*◌, List, [], ◌∷◌, ◌++◌, codes}
use Rattle.std.specs.Fmt.{decimal}
use Rattle.std.specs.List.{concat}
use Rattle.tree.specs.Entries.{drain_moves, moves_of, request_moves, total}
use Rattle.tree.specs.declared.entries.TheConstants.{BUCKET_BYTES}
use Rattle.tree.specs.declared.entries.Work.{Work}
use Rattle.tree.specs.declared.entries.Work.TheVariants.{Request, Drain}

-- the line of row r, which has depth D
abbrev pub row_line : ℕ → ℕ → List ℕ
row_line r D =
    concat
    (codes "row " ∷ decimal r ∷ codes ": depth " ∷ decimal D ∷ codes ", request " ∷ decimal (request_moves D) ∷ codes " moves, drain "
    ∷ decimal (drain_moves D) ∷ codes " moves\n" ∷ [])

-- a line for each depth, the first of which is that of row r
abbrev pub lines_from : (ℕ → ℕ → List ℕ) → ℕ → List ℕ → List ℕ
lines_from line r [] = []
lines_from line r (D ∷ Ds) = line r D ++ lines_from line (suc r) Ds

abbrev pub row_lines : List ℕ → List ℕ
row_lines Ds = lines_from row_line 0 Ds

-- the line of a call: what it moves in all rows, and the bytes
abbrev pub total_line : List ℕ → Work → List ℕ → List ℕ
total_line name work Ds =
    let moved = total (moves_of work) Ds in
    concat (name ∷ codes ": " ∷ decimal moved ∷ codes " moves, " ∷ decimal (moved * BUCKET_BYTES) ∷ codes " bytes\n" ∷ [])

-- a line for each row, and one each for a request and a drain
abbrev pub quote : List ℕ → List ℕ
quote Ds = concat (row_lines Ds ∷ total_line (codes "request") Request Ds ∷ total_line (codes "drain") Drain Ds ∷ [])
