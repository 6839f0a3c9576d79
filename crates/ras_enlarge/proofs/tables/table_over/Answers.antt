use Rattle.std.proofs.Common.{◌≡◌, ℕ, ◌<◌, List, [], length, get_or, refl, sym, ◌∙◌, ap, subst, arith}
use Rattle.ras_logic.specs.declared.raw_db.RawDb.{RawDb}
use Rattle.ras_logic.specs.declared.function.FunDecl.{FunDecl}
use Rattle.ras_closure.specs.Elements.{number}
use Rattle.ras_closure.proofs.Cases.{some_same}
use Rattle.ras_enlarge.specs.Numbers.{size_in}
use Rattle.ras_split.proofs.Owning.{get_or-same}
use Rattle.ras_enlarge.proofs.Images.{AreImagesOver, images-start, images-more, images-end, function-sorts}
use Rattle.ras_enlarge.proofs.tables.table_over.Goals as goal

pub loop-k-init : goal.loop-k-init
loop-k-init c decl known =
    let as_many : length c.args.db.now.tables ≡ length c.args.table.now.shape.schema.functions = c.requires.database.tables in
    let lt : c.args.function.n < length c.args.db.now.tables = rw as_many c.requires.known in
    let items : c.as_slice.result.now ≡ c.args.db.now.tables = c.as_slice.ensures.items ∙ ap (λ (e : RawDb). e.tables) c.raw.ensures in
    let read : c.index-as_slice-function.result ≡ get_or c.args.db.now.tables c.args.function.n c.index-as_slice-function.result =
    subst (λ (xs : List (List ℕ)). c.index-as_slice-function.result ≡ get_or xs c.args.function.n c.index-as_slice-function.result) items c.index-as_slice-function.is in
    let images : c.in_ok-images.images ≡ get_or c.args.db.now.tables c.args.function.n [] =
    c.in_ok-images.ensures ∙ read ∙ get_or-same c.args.db.now.tables c.args.function.n c.index-as_slice-function.result [] lt in
    let long = (c.requires.database.each_table c.args.function.n decl known).as_long in
    let count : c.len-old.result ≡ length (get_or c.args.db.now.tables c.args.function.n []) = c.len-old.ensures.count ∙ ap (λ (xs : List ℕ). length xs) images in
    rw (images, count)
    (images-start c.args.table.now c.args.db.now (number c.args.numbers.now) (size_in c.args.sizes.now) c.args.function decl (get_or c.args.db.now.tables c.args.function.n []) long)

pub loop-k-preserved : goal.loop-k-preserved
loop-k-preserved c decl known =
    let as_many : length c.args.db.now.tables ≡ length c.args.table.now.shape.schema.functions = c.requires.database.tables in
    let lt : c.args.function.n < length c.args.db.now.tables = rw as_many c.requires.known in
    let items : c.as_slice.result.now ≡ c.args.db.now.tables = c.as_slice.ensures.items ∙ ap (λ (e : RawDb). e.tables) c.raw.ensures in
    let read : c.index-as_slice-function.result ≡ get_or c.args.db.now.tables c.args.function.n c.index-as_slice-function.result =
    subst (λ (xs : List (List ℕ)). c.index-as_slice-function.result ≡ get_or xs c.args.function.n c.index-as_slice-function.result) items c.index-as_slice-function.is in
    let images : c.in_ok-images.images ≡ get_or c.args.db.now.tables c.args.function.n [] =
    c.in_ok-images.ensures ∙ read ∙ get_or-same c.args.db.now.tables c.args.function.n c.index-as_slice-function.result [] lt in
    let long = (c.requires.database.each_table c.args.function.n decl known).as_long in
    let count : c.len-old.result ≡ length (get_or c.args.db.now.tables c.args.function.n []) = c.len-old.ensures.count ∙ ap (λ (xs : List ℕ). length xs) images in
    let from = c.loop-k.auto.k in
    rw c.in_ok-push.ensures.ok
    (images-more c.args.table.now c.args.db.now (number c.args.numbers.now) (size_in c.args.sizes.now) c.args.function decl (get_or c.args.db.now.tables c.args.function.n []) c.loop-k.k c.image_of_new.result c.loop-k.images
    (omega (arith, from, count, long)) (c.loop-k.invariant decl known) (c.image_of_new.ensures decl known))

pub returns : goal.returns
returns c decl known =
    let as_many : length c.args.db.now.tables ≡ length c.args.table.now.shape.schema.functions = c.requires.database.tables in
    let lt : c.args.function.n < length c.args.db.now.tables = rw as_many c.requires.known in
    let items : c.as_slice.result.now ≡ c.args.db.now.tables = c.as_slice.ensures.items ∙ ap (λ (e : RawDb). e.tables) c.raw.ensures in
    let read : c.index-as_slice-function.result ≡ get_or c.args.db.now.tables c.args.function.n c.index-as_slice-function.result =
    subst (λ (xs : List (List ℕ)). c.index-as_slice-function.result ≡ get_or xs c.args.function.n c.index-as_slice-function.result) items c.index-as_slice-function.is in
    let images : c.in_ok-images.images ≡ get_or c.args.db.now.tables c.args.function.n [] =
    c.in_ok-images.ensures ∙ read ∙ get_or-same c.args.db.now.tables c.args.function.n c.index-as_slice-function.result [] lt in
    let long = (c.requires.database.each_table c.args.function.n decl known).as_long in
    let count : c.len-old.result ≡ length (get_or c.args.db.now.tables c.args.function.n []) = c.len-old.ensures.count ∙ ap (λ (xs : List ℕ). length xs) images in
    let same : c.function-decl.result ≡ decl = some_same (sym c.function-decl.ensures.known ∙ known) in
    let room = c.requires.room decl.source (function-sorts c.args.table.now c.known.ensures c.args.function.n decl known).0 in
    let end_is : size_in c.args.sizes.now c.function-decl.result.source ≡ size_in c.args.sizes.now decl.source = ap (λ (q : FunDecl). size_in c.args.sizes.now q.source) same in
    let ge = c.loop-k-test.false in
    let le = c.loop-k.auto.k-end (omega (arith, count, long, room, end_is)) in
    images-end c.args.table.now c.args.db.now (number c.args.numbers.now) (size_in c.args.sizes.now) c.args.function decl (get_or c.args.db.now.tables c.args.function.n []) c.loop-k.k c.loop-k.images
    (omega (arith, ge, le, end_is)) (c.loop-k.invariant decl known)
