-- `candidates::lines::push_line` meets its contract: the parts of a line, one behind the other.
use Rattle.answer.proofs.Kit.{◌≡◌, sym, ap, append-nil, ◌∙◌, append_assoc, [], ◌∷◌, ◌++◌, List, ℕ, ◌+◌, ◌≤◌, ◌<◌, arith, length, length-append}
use Rattle.answer.specs.Words.{bytes}
use Rattle.names.specs.Names.{table_of, name_of}
use Rattle.names.proofs.Named.{table_brief, name_length}
use Rattle.rules.specs.Suffix.{suffix_of}
use Rattle.rules.proofs.Short.{suffix_reached}
use Rattle.inference.proofs.Puts.{with_set}
use Rattle.candidates.specs.Candidates.{over, slash, symbol, line}
use Rattle.candidates.proofs.Listed.{put_name, put_byte, slash_length}
use Rattle.candidates.proofs.lines.push_line.Goals as goal
use Rattle.candidates.proofs.lines.push_line.Goals.{After-push, After-push_byte-2, in-Some, in_default}

named : (c : After-push) → c.push.new.self ≡ c.args.written.now ++ name_of (table_of c.args.names) c.args.candidate.root
named c = put_name _ _ _ c.args.names _ _ c.class_name.ensures (omega (arith, c.requires.room)) c.push.ensures

-- the name and the suffix
chorded : (c : After-push_byte-2) → c.push_suffix.new.text ≡ c.args.written.now ++ name_of (table_of c.args.names) c.args.candidate.root ++ suffix_of c.args.candidate.set
chorded c =
    let name = named (goal.at.returns c).After-push in
    let room : length c.push.new.self + 72 ≤ 448 =
    rw name (simp length-append (omega (arith, c.requires.room, name_length (table_of c.args.names) (table_brief c.args.names) c.args.candidate.root))) in
    c.push_suffix.ensures ∙ with_set c.args.candidate.set 448 c.push.new.self c.requires.rooted room
    ∙ ap (λ (t : List ℕ). t ++ suffix_of c.args.candidate.set) name

chorded_length : (c : After-push_byte-2) → length c.push_suffix.new.text ≤ length c.args.written.now + 29
chorded_length c =
    rw (chorded c) (simp length-append (omega (
      arith,
      name_length (table_of c.args.names) (table_brief c.args.names) c.args.candidate.root,
      suffix_reached c.args.candidate.set c.requires.rooted,
    )))

-- and the bass, if there is one
slashed : (c : After-push_byte-2) → c.match-candidate.written ≡ c.push_suffix.new.text ++ slash (table_of c.args.names) c.args.candidate.bass
unfolding over bytes
slashed c =
    let long = chorded_length c in
    elim c.match-candidate.branch [
      | in-Some w ↦
          let slash_put = put_byte _ _ _ 47 (omega (arith, long, c.requires.room)) w.push_byte.ensures in
          let room : length w.push_byte.new.self + 8 ≤ 448 = rw slash_put (simp length-append (omega (arith, long, c.requires.room))) in
          rw w.in-Some.is
          (w.written-is ∙ put_name _ _ _ c.args.names w.in-Some.bass _ w.class_name-in-Some.ensures room w.push-in-Some.ensures
          ∙ ap (λ (t : List ℕ). t ++ name_of (table_of c.args.names) w.in-Some.bass) slash_put
          ∙ append_assoc c.push_suffix.new.text (47 ∷ []) (name_of (table_of c.args.names) w.in-Some.bass))
      | in_default w ↦ rw w.in_default.is (w.written-is ∙ sym (append-nil c.push_suffix.new.text))
    ]

pub returns : goal.returns
unfolding line symbol
returns c =
    let table = table_of c.args.names in
    let long = chorded_length c in
    let room : length c.match-candidate.written < 448 =
    rw (slashed c) (simp length-append (omega (arith, long, slash_length table (table_brief c.args.names) c.args.candidate.bass, c.requires.room))) in
    put_byte _ _ _ 10 room c.push_byte-2.ensures
    ∙ ap (λ (t : List ℕ). t ++ (10 ∷ [])) (slashed c ∙ ap (λ (t : List ℕ). t ++ slash table c.args.candidate.bass) (chorded c))
    ∙ simp append_assoc
