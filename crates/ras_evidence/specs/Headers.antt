-- The first line of an evidence.
use Rattle.std.specs.Prelude.{ℕ, ◌<◌, ◌^◌, List, [], ◌∷◌, Ok, Err, codes}
use Rattle.std.specs.Fmt.{decimal}
use Rattle.ras_lines.specs.Lines.{line}
use Rattle.ras_lines.specs.Fronts.{Front, chain}
use Rattle.ras_lines.specs.Numbers.{behind, either, fixed, number, behind_blank}
use Rattle.ras_evidence.specs.declared.header.Verdict.{Verdict}
use Rattle.ras_evidence.specs.declared.header.Verdict.TheVariants.{Safe, Unsafe, Unknown}
use Rattle.ras_evidence.specs.declared.header.Header.{Header}

abbrev pub verdict_word : Verdict → List ℕ
verdict_word Safe = codes "safe"
verdict_word Unsafe = codes "unsafe"
verdict_word Unknown = codes "unknown"

-- `evidence V safe`, `evidence V unsafe` or `evidence V unknown`
abbrev pub header_line : Header → List ℕ
header_line h = line (codes "evidence") (decimal h.version ∷ verdict_word h.verdict ∷ [])

abbrev pub IsWrittenHeader : Header → Type 0
IsWrittenHeader h = h.version < 2 ^ 32

-- How it is read.

abbrev pub verdict : List ℕ → Front ℕ Verdict
verdict bytes =
    either (behind (codes "safe") bytes) (λ rest. Ok (Safe, rest))
    (either (behind (codes "unsafe") bytes) (λ rest. Ok (Unsafe, rest))
    (either (behind (codes "unknown") bytes) (λ rest. Ok (Unknown, rest)) (Err bytes)))

abbrev pub header : List ℕ → Front ℕ Header
header bytes = chain (λ _ h. h) (fixed (codes "evidence")) (chain (λ v k. record { version = v; verdict = k }) (behind_blank number) (behind_blank verdict)) bytes
