-- What is said of a name that names nothing.
use Rattle.std.specs.Prelude.{◌||◌, [], codes, if◌then◌else◌}
use Rattle.std.specs.Str.{bytes_eq}
use Rattle.ls_explanations.specs.Tokens.{Bytes}

abbrev pub library_lesson : Bytes → Bytes
library_lesson name =
    if bytes_eq name (codes "length")
    then codes "the length of an array isn't supported: keep it in a field\n"
    else (if bytes_eq name (codes "System")
    then codes "printing isn't supported: remove it. Histories and traces show what each step does\n"
    else (if bytes_eq name (codes "Math")
    then codes "`Math` isn't supported: write out what it computes\n"
    else (if bytes_eq name (codes "Thread") || bytes_eq name (codes "ThreadID")
    then codes
    "`Thread` isn't supported: remove `yield`, `sleep`, `onSpinWait`; pass a number, as `thread A { c.m(0); }`\n"
    else [])))

-- methods of AtomicReference that AtomicMarkableReference has with other arguments
abbrev pub pair_lesson : Bytes → Bytes
pair_lesson name =
    if bytes_eq name (codes "get")
    then codes "`get` of an AtomicMarkableReference also fills a `boolean[]`: use `getReference()`\n"
    else (if bytes_eq name (codes "set")
    then codes "`set` of an AtomicMarkableReference takes a mark too: use `set(a, false)`\n"
    else (if bytes_eq name (codes "compareAndSet")
    then codes
    "`compareAndSet` of an AtomicMarkableReference takes marks too: use `compareAndSet(a, b, false, false)`\n"
    else []))

abbrev pub method_lesson : Bytes → Bytes
method_lesson name =
    if bytes_eq name (codes "wait") || bytes_eq name (codes "notify") || bytes_eq name (codes "notifyAll")
    || bytes_eq name (codes "await") || bytes_eq name (codes "signal")
    || bytes_eq name (codes "signalAll") || bytes_eq name (codes "newCondition")
    then codes
    "`wait` and `notify` aren't supported: loop with `lock.unlock(); lock.lock();` of a lock\n"
    else (if bytes_eq name (codes "hashCode") || bytes_eq name (codes "equals")
    || bytes_eq name (codes "toString")
    then codes "an object has only the methods of its class: use a key of type `int`\n"
    else library_lesson name)
