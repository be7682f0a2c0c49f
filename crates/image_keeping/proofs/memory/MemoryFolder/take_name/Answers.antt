use Rattle.std.proofs.Common.{List, ℕ, ◌≡◌, ◌∙◌, ◌++◌, ◌∷◌, ◌⊎◌, [], ap, map, subst, Vec, Global}
use Rattle.image_keeping.specs.Memory.{Leaves, LeavesOne, beside_of}
use Rattle.image_keeping.proofs.Outcomes.{renamed}
use Rattle.image_keeping.proofs.memory.MemoryFolder.take_name.Goals as goal

pub returns-clause-crash : goal.returns-clause-crash
returns-clause-crash c =
    let old = c.args.self.now in
    let files = map (λ (v : Vec ℕ Global). v.items) old.earlier.items in
    let files' = map (λ (v : Vec ℕ Global). v.items) c.push_file.new.files.items in
    let copied : c.in_ok-before.before.items ≡ old.named.items = c.in_ok-before.ensures ∙ c.as_slice-2.ensures.value in
    let moved : c.in_ok-named.named.items ≡ old.beside.items = c.in_ok-named.ensures ∙ c.as_slice.ensures.value in
    λ c' h. renamed old.earlier_last old.named_lasts c.both-self.result files files' old.named.items c' (beside_of old c')
    c.both-self.ensures (c.in_ok-push_file.ensures.ok ∙ ap (λ (file : List ℕ). files ++ file ∷ []) copied)
    (subst (λ (bytes : List ℕ). LeavesOne c.both-self.result files' c' ⊎ Leaves old.beside_lasts bytes c') moved h)
