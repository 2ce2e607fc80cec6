use Rattle.std.proofs.Common.{◌≡◌, ℕ, List}
use Rattle.std.proofs.lemmas.Result.{IfOk-weaker}
use Rattle.demo_files.specs.Demo.{demo_text, IsDemoFile}
use Rattle.demo_files.proofs.demo.demo_file.Goals as goal

pub returns : goal.returns
returns c =
    let group = c.in_ok-group.group in
    IfOk-weaker c.text_of.result (λ (text : List ℕ). text ≡ demo_text c.args.number group.ops) (λ (text : List ℕ). IsDemoFile c.args.number text)
    (λ text e. record { group = group; is_parent = c.in_ok-group.ensures; text_is = e }) c.text_of.ensures
