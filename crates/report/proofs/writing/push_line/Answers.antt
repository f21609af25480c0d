use Rattle.std.proofs.Common.{◌++◌, string_bytes, codes, ap, ◌∙◌, append_assoc, arith}
use Rattle.report.specs.Lines.{text_of}
use Rattle.report.proofs.writing.push_line.Goals as goal

pub returns : goal.returns
returns c =
    let was = string_bytes c.args.text.now in
    let end = c.in_ok-push.ensures in
    end.bytes ∙ ap (λ xs. string_bytes c.push_words.new.text ++ xs) (end.ascii (omega arith)) ∙ ap (λ xs. xs ++ codes "\n") c.in_ok-push_words.ensures ∙
    append_assoc was (text_of c.args.line) (codes "\n")
