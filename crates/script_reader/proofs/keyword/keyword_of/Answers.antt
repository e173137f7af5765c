use Rattle.std.proofs.Common.{◌≡◌, codes, ap, sym, arith, rules}
use Rattle.std.proofs.lemmas.Slice.Eq.{text_from_reads}
use Rattle.script_reader.specs.Forms.{keyword_of}
use Rattle.script_reader.proofs.keyword.keyword_of.Goals as goal

pub returns-in-shape : goal.returns-in-shape
returns-in-shape c =
    let same : codes "shape" ≡ c.args.word.now = sym (text_from_reads c.args.word.now (codes "shape") (omega arith) (search rules)) in
    ap keyword_of same

pub returns-in-session : goal.returns-in-session
returns-in-session c =
    let same : codes "session" ≡ c.args.word.now = sym (text_from_reads c.args.word.now (codes "session") (omega arith) (search rules)) in
    ap keyword_of same

pub returns-in-watch : goal.returns-in-watch
returns-in-watch c =
    let same : codes "watch" ≡ c.args.word.now = sym (text_from_reads c.args.word.now (codes "watch") (omega arith) (search rules)) in
    ap keyword_of same

pub returns-in-append : goal.returns-in-append
returns-in-append c =
    let same : codes "append" ≡ c.args.word.now = sym (text_from_reads c.args.word.now (codes "append") (omega arith) (search rules)) in
    ap keyword_of same

pub returns-in-correct : goal.returns-in-correct
returns-in-correct c =
    let same : codes "correct" ≡ c.args.word.now = sym (text_from_reads c.args.word.now (codes "correct") (omega arith) (search rules)) in
    ap keyword_of same

pub returns-in-remove : goal.returns-in-remove
returns-in-remove c =
    let same : codes "remove" ≡ c.args.word.now = sym (text_from_reads c.args.word.now (codes "remove") (omega arith) (search rules)) in
    ap keyword_of same

pub returns-in-parts : goal.returns-in-parts
returns-in-parts c =
    let same : codes "parts" ≡ c.args.word.now = sym (text_from_reads c.args.word.now (codes "parts") (omega arith) (search rules)) in
    ap keyword_of same
