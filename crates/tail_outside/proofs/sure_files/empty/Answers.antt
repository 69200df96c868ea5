use Rattle.std.proofs.Common.{◌≡◌, ◌∙◌, ap, refl, sym, None, Some, position, option_map}
use Rattle.std.specs.Str.{bytes_eq}
use Rattle.tail_outside.proofs.HeldLemmas.{first_under-place, first_under-set, others-set, first_under-none}
use Rattle.tail_outside.proofs.sure_files.empty.Goals as goal
use Rattle.tail_outside.specs.inside.Sure.{emptied, sink_under}

-- the file stands at its place, with its sink changed
pub returns-in-Some-clause-emptied : goal.returns-in-Some-clause-emptied
returns-in-Some-clause-emptied c =
    let found : position (λ file. bytes_eq file.name c.args.name.now) c.args.files.now.items ≡ Some c.in-Some.place = sym (rw c.deref.ensures.value at c.in-Some.ensures) in
    let held : sink_under c.args.files.now.items c.args.name.now ≡ Some c.index_mut-file.result.now.sink =
    first_under-place (λ file. file.name) (λ file. file.sink) c.args.files.now.items c.args.name.now c.in-Some.place c.index_mut-file.result.now c.index_mut-file.result.now found c.index_mut-file.ensures.value in
    let written = first_under-set (λ file. file.name) (λ file. file.sink) c.args.files.now.items c.args.name.now c.in-Some.place c.index_mut-file.result.now _ found c.index_mut-file.ensures.value (ap (λ file. file.name) c.file.view_is) in
    written ∙ ap Some (c.empty.ensures ∙ ap (λ file. emptied file.sink) c.file.view_is) ∙ ap (option_map emptied) (sym held)

-- a write at its place passes the other names by
pub returns-in-Some-clause-others : goal.returns-in-Some-clause-others
returns-in-Some-clause-others c =
    let found : position (λ file. bytes_eq file.name c.args.name.now) c.args.files.now.items ≡ Some c.in-Some.place = sym (rw c.deref.ensures.value at c.in-Some.ensures) in
    others-set (λ file. file.name) (λ file. file.sink) c.args.files.now.items c.args.name.now c.in-Some.place c.index_mut-file.result.now _ found c.index_mut-file.ensures.value (ap (λ file. file.name) c.file.view_is)

-- there is no such file, before and after
pub returns-in_default-clause-emptied : goal.returns-in_default-clause-emptied
returns-in_default-clause-emptied c =
    let missing : position (λ file. bytes_eq file.name c.args.name.now) c.args.files.now.items ≡ None = sym (rw c.deref.ensures.value at c.in_default.ensures) in
    let none : sink_under c.args.files.now.items c.args.name.now ≡ None = first_under-none (λ file. file.name) (λ file. file.sink) c.args.files.now.items c.args.name.now missing in
    rw none refl
