use Rattle.std.proofs.Common.{inl, inr, length, refl}
use Rattle.ras_syntax.specs.Parsing.{place}
use Rattle.ras_file.specs.declared.fault.FileKind.TheVariants.{Syntax}
use Rattle.ras_file.specs.FileFaults.{lexical_kind}
use Rattle.ras_answers.proofs.Telling.{file_fault}
use Rattle.ras_answers.proofs.law.a_text_denotes_a_system_or_has_a_fault.Goals as goal

pub returns : goal.returns
returns c = λ bytes. elim (c.a_text_has_tokens_or_a_fault.ensures bytes) [
  | inr f ↦ inr (record { at = f.0.at; kind = lexical_kind f.0.kind }, inl (record { first = f.0; is_first = f.1; at = refl; kind = refl }))
  | inl read ↦ elim (c.tokens_are_a_file_or_have_a_fault.ensures read.0) [
    | inr f ↦ inr (record { at = place read.0 (length bytes) f.0; kind = Syntax }, inr (inl (record { tokens = read.0; read = read.1; number = f.0; is_first = f.1; at = refl; kind = refl })))
    | inl is ↦
        let file = c.a_file_has_places.ensures read.0 is in
        elim (c.tokens_denote_or_have_a_fault.ensures read.0 file.0 file.1) [
          | inl d ↦ inl (d.0, d.1, record { tokens = read.0; read = read.1; denote = d.2 })
          | inr f ↦ let fault = file_fault bytes read.0 f.0 read.1 f.1 in inr (fault.0, inr (inr fault.1))
        ]
  ]
]
