-- `answer::text::Text::push` meets its contract: a word is stored where its eight bytes have room.
use Rattle.answer.proofs.Kit.{◌≤◌, ap, ◌∙◌, ◌+◌, arith}
use Rattle.answer.specs.Made.{with_word}
use Rattle.answer.proofs.Made.{with_word_lem}
use Rattle.answer.proofs.text.Text.push.Goals as goal

pub returns : goal.returns
returns g c =
    let room : c.self.inside.length + 8 ≤ g.row.N = omega (arith, c.if-at.false, c.if-this-lt8.false) in
    rw (c.min.ensures, c.put.ensures.1)
    (with_word_lem g.row.N c.self.inside.bytes c.self.inside.length c.args.word c.self.told room ∙ ap (λ x. with_word g.row.N x c.args.word) c.self.view_is)
