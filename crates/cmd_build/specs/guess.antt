pub mod ReadableNames
